use Rattle.std.proofs.Common.{arith, ◌≡◌, ◌∷◌, ◌%◌, ◌<◌, ℕ, IsSome, refl, sym, ap, ◌∙◌, subst, inl, Some}
use Rattle.eleos_base.specs.Ties.{Has}
use Rattle.atomic_table.specs.Table.{rest}
use Rattle.eleos_turn.specs.Rule.{base_of}
use Rattle.eleos_turn.proofs.Steps.{turn_taken, take_ended}
use Rattle.eleos_turn.proofs.Numbers.{even_of}
use Rattle.eleos_turn.proofs.Calls.{opening_length, topmost, exchanged, had, took}
use Rattle.eleos_turn.proofs.table.CellTable.attempt.Goals.{then-touch, else-touch}
use Rattle.eleos_turn.proofs.table.CellTable.attempt.Goals as goal

pub fetch_or-word-requires : goal.fetch_or-word-requires
fetch_or-word-requires g c = let sized = c.args.self.now.sized in let within = c.requires.cell in let count = opening_length g.P.Plot.terms c.args.self.now.table.shared.key in
    let bits : (c.if-touch.bits % 2 ≡ 1) × (c.if-touch.bits < 4) = elim c.if-touch.branch [ then-touch w ↦ (ap (λ (z : ℕ). z % 2) w.bits-is, omega (arith, w.bits-is)) | else-touch w ↦ (ap (λ (z : ℕ). z % 2) w.bits-is, omega (arith, w.bits-is)) ] in
    (c.requires.own, omega arith, turn_taken g.P.Plot.terms (base_of g.P.Plot.terms c.args.self.now.table.shared.key) g.N.Missed.missed _ _ _ c.args.cell _ c.requires.made.0.0 (omega arith) (omega arith) (omega arith) bits.0 bits.1 c.requires.rests.1 c.requires.made.0.1 c.requires.made.1)

pub exchange-slot-requires : goal.exchange-slot-requires
exchange-slot-requires g c = let t = c.fetch_or-word.ensures.2.1 (even_of c.fetch_or-word.result c.if-word-eq1.false) c.args.cell refl in
    (c.fetch_or-word.ensures.0 ∙ c.requires.own, (Some t.1, topmost g.P.Plot.terms c.args.seat.now.me _ _ _ _ t.2))

pub load-requires : goal.load-requires
load-requires g c = let sized = c.args.self.now.sized in let t = c.fetch_or-word.ensures.2.1 (even_of c.fetch_or-word.result c.if-word-eq1.false) c.args.cell refl in
    let now = exchanged g.P.Plot.terms c.args.seat.now.me _ _ _ _ _ _ c.requires.rests.0 t.2 (c.exchange-slot.ensures.3 ∙ (λ i. (c.fetch_or-word.new.seat.me.0, (c.args.cell, c.of.ensures i) ∷ rest c.fetch_or-word.new.seat.me.1))) in (
      c.exchange-slot.ensures.0 ∙ (c.fetch_or-word.ensures.0 ∙ c.requires.own),
      omega arith,
      take_ended g.P.Plot.terms (base_of g.P.Plot.terms c.args.self.now.table.shared.key) _ _ _ _ c.args.cell
          (ap (λ m. m.1) now) (ap (λ m. m.0.moving) now) (subst (Has c.args.cell) (sym (ap (λ m. m.0.held) now)) (inl refl)),
    )

pub unwrap-requires : goal.unwrap-requires
unwrap-requires g c = let t = c.fetch_or-word.ensures.2.1 (even_of c.fetch_or-word.result c.if-word-eq1.false) c.args.cell refl in
    let is = had g.P.Plot.terms c.args.seat.now.me _ _ _ _ _ _ t.2 c.exchange-slot.ensures.2 in
    subst IsSome (sym (c.into_value.ensures ∙ is)) refl

pub returns-clause-took : goal.returns-clause-took
returns-clause-took g c = let even = even_of c.fetch_or-word.result c.if-word-eq1.false in (
  even,
  took g.P.Plot.terms c.args.seat.now.me c.fetch_or-word.new.seat.me c.exchange-slot.new.seat.me c.load.new.seat.me c.args.cell c.fetch_or-word.result c.exchange-slot.result c.unwrap.result (c.fetch_or-word.ensures.2.1 even c.args.cell refl)
      c.requires.rests.0 c.exchange-slot.ensures.2 (c.exchange-slot.ensures.3 ∙ (λ i. (c.fetch_or-word.new.seat.me.0, (c.args.cell, c.of.ensures i) ∷ rest c.fetch_or-word.new.seat.me.1))) c.load.ensures.2 (sym c.into_value.ensures ∙ c.unwrap.ensures),
)

pub returns-then-word-eq1-clause-same : goal.returns-then-word-eq1-clause-same
returns-then-word-eq1-clause-same g c = let now = c.fetch_or-word.ensures.2.0 c.if-word-eq1.true c.args.cell refl in
    (c.fetch_or-word.ensures.0, c.fetch_or-word.ensures.1, (ap (λ m. m.1) now ∙ c.requires.rests.0, ap (λ m. m.0.moving) now ∙ c.requires.rests.1))

pub returns-then-word-eq1-clause-took : goal.returns-then-word-eq1-clause-took
returns-then-word-eq1-clause-took g c = (c.if-word-eq1.true, c.fetch_or-word.ensures.2.0 c.if-word-eq1.true c.args.cell refl)

pub returns-clause-plain : goal.returns-clause-plain
returns-clause-plain g c = c.fetch_or-word.ensures.2.2

pub returns-then-word-eq1-clause-plain : goal.returns-then-word-eq1-clause-plain
returns-then-word-eq1-clause-plain g c = c.fetch_or-word.ensures.2.2

pub returns-clause-pins : goal.returns-clause-pins
returns-clause-pins g c = c.fetch_or-word.ensures.2.3 c.args.cell refl

pub returns-then-word-eq1-clause-pins : goal.returns-then-word-eq1-clause-pins
returns-then-word-eq1-clause-pins g c = c.fetch_or-word.ensures.2.3 c.args.cell refl
