use Rattle.std.proofs.Common.{arith, ◌<◌, [], ◌∷◌, ℕ, refl, sym, ap, ◌∙◌, subst, Some, None}
use Rattle.eleos_base.specs.Ties.{Has}
use Rattle.eleos_base.specs.Histories.{made}
use Rattle.atomic_table.specs.Table.{rest}
use Rattle.eleos_turn.specs.Rule.{base_of}
use Rattle.eleos_turn.specs.Views.{freed}
use Rattle.eleos_turn.proofs.Steps.{give_begun, turn_given}
use Rattle.eleos_turn.proofs.Calls.{topmost, exchanged, had}
use Rattle.eleos_turn.proofs.table.CellTable.hand_back.Goals as goal

pub load-requires : goal.load-requires
load-requires g c = let sized = c.args.self.now.sized in let within = c.requires.cell in
    (c.requires.own, omega arith, give_begun g.P.Plot.terms (base_of g.P.Plot.terms c.args.self.now.table.shared.key) _ _ _ c.args.cell c.requires.rests.1 c.requires.held)

pub exchange-empty-requires : goal.exchange-empty-requires
exchange-empty-requires g c = (c.load.ensures.0 ∙ c.requires.own, (None, topmost g.P.Plot.terms c.args.seat.now.me _ _ c.args.cell None (c.load.ensures.2 c.args.cell refl)))

pub unreachable-requires : goal.unreachable-requires
unreachable-requires g c = c.in_default.not-None (c.into_value.ensures ∙ had g.P.Plot.terms c.args.seat.now.me c.load.new.seat.me _ c.args.cell None _ _ (c.load.ensures.2 c.args.cell refl) c.exchange-empty.ensures.2)

pub fetch_and-requires : goal.fetch_and-requires
fetch_and-requires g c = let sized = c.args.self.now.sized in let within = c.requires.cell in
    let now = exchanged g.P.Plot.terms c.args.seat.now.me c.load.new.seat.me c.exchange-empty.new.seat.me _ c.args.cell None (Some c.args.value) c.requires.rests.0 (c.load.ensures.2 c.args.cell refl) (c.exchange-empty.ensures.3 ∙ (λ i. (c.load.new.seat.me.0, (c.args.cell, c.of.ensures i) ∷ rest c.load.new.seat.me.1))) in (
      c.exchange-empty.ensures.0 ∙ (c.load.ensures.0 ∙ c.requires.own),
      omega arith,
      turn_given g.P.Plot.terms (base_of g.P.Plot.terms c.args.self.now.table.shared.key) _ _ c.exchange-empty.new.seat.me c.args.cell _ c.args.value refl refl (ap (λ m. m.1) now) (ap (λ m. m.0.moving) now)
          (subst (Has c.args.cell) (sym (ap (λ m. m.0.held) now)) c.requires.held) (c.requires.right.0 ∙ ap (λ m. made g.P.Plot.terms m.0.base m.0.seen c.args.cell) (sym now)) (let alive = c.requires.right.1 in subst (λ (z : ℕ). 0 < z) (sym (ap (λ m. m.0.base.hands) now)) alive),
    )

pub returns-clause-given : goal.returns-clause-given
returns-clause-given g c = let now = exchanged g.P.Plot.terms c.args.seat.now.me c.load.new.seat.me c.exchange-empty.new.seat.me _ c.args.cell None (Some c.args.value) c.requires.rests.0 (c.load.ensures.2 c.args.cell refl) (c.exchange-empty.ensures.3 ∙ (λ i. (c.load.new.seat.me.0, (c.args.cell, c.of.ensures i) ∷ rest c.load.new.seat.me.1))) in
    c.fetch_and.ensures.2 c.args.cell refl ∙ ap (λ m. (freed m.0 c.args.cell, [])) now
