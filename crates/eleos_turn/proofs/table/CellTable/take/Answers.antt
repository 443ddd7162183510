use Rattle.std.proofs.Common.{◌<◌, ℕ, sym, ap, ◌∙◌, subst}
use Rattle.eleos_base.specs.Ties.{Has}
use Rattle.eleos_turn.proofs.table.CellTable.take.Goals as goal

pub attempt-requires-clause-rests : goal.attempt-requires-clause-rests
attempt-requires-clause-rests g c = let me = c.loop.invariant.4 in (ap (λ m. m.1) me ∙ c.requires.rests.0, ap (λ m. m.0.moving) me ∙ c.requires.rests.1)

pub attempt-requires-clause-made : goal.attempt-requires-clause-made
attempt-requires-clause-made g c = let me = c.loop.invariant.4 in let had = c.requires.made.0 in let alive = c.requires.made.1 in
    ((had.0, subst (Has had.0) (sym (ap (λ m. m.0.numbers) me)) had.1), subst (λ (n : ℕ). 0 < n) (sym (ap (λ m. m.0.base.hands) me)) alive)
