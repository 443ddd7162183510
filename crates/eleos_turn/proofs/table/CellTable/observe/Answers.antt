use Rattle.std.proofs.Common.{arith, sym, ap, ◌∙◌, subst, ◌<◌, ℕ}
use Rattle.eleos_turn.specs.Rule.{base_of}
use Rattle.eleos_turn.proofs.Seats.{observes}
use Rattle.eleos_turn.proofs.Steps.{heard}
use Rattle.eleos_turn.proofs.table.CellTable.observe.Goals as goal

pub join_seat-requires : goal.join_seat-requires
join_seat-requires g c = let sized = c.args.self.now.sized in
    (c.requires.own.0, c.requires.own.1, c.requires.idle.0, omega arith, observes g.P.Plot.terms (base_of g.P.Plot.terms c.args.self.now.table.shared.key) _ _ _ _ c.requires.idle.1 c.requires.idle.2)

pub load-requires : goal.load-requires
load-requires g c = let sized = c.args.self.now.sized in let alive = c.requires.idle.3 in
    (c.join_seat.ensures.0 ∙ c.requires.own.0, omega arith, heard g.P.Plot.terms (base_of g.P.Plot.terms c.args.self.now.table.shared.key) _ _ _ _ (subst (λ (n : ℕ). 0 < n) (sym (ap (λ m. m.0.base.hands) c.join_seat.ensures.2)) alive))
