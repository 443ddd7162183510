use Rattle.std.proofs.Common.{arith, refl, sym, ◌∙◌, subst}
use mathlib.Core.Logic.{dite}
use native.Mathlib.Decide.{ℕ_discrete}
use Rattle.eleos_turn.specs.Closings.{IsDone}
use Rattle.eleos_turn.proofs.Gathered.{done_at, done_all, at_place}
use Rattle.eleos_turn.proofs.closing.all_done.Goals as goal

pub returns-then-not-is_done : goal.returns-then-not-is_done
returns-then-not-is_done g c = (λ no. absurd (cc no), λ all. sym c.if-not-is_done.true ∙ c.is_done.ensures.1 (subst (IsDone g.P.Plot.terms) (sym c.hand-item.is) (done_at g.P.Plot.terms c.args.hands.now c.loop-hand.hand-index c.hand-item.result c.loop-hand-test.true all)))

pub loop-hand-preserved : goal.loop-hand-preserved
loop-hand-preserved g c i x below = dite (ℕ_discrete i c.loop-hand.hand-index)
    (λ e. subst (IsDone g.P.Plot.terms) (c.hand-item.is ∙ at_place c.args.hands.now c.loop-hand.hand-index i c.hand-item.result x c.loop-hand-test.true e) (c.is_done.ensures.0 c.if-not-is_done.false))
    (λ ne. c.loop-hand.invariant i x (omega (arith, below, ne)))

pub returns : goal.returns
returns g c = (λ _. done_all g.P.Plot.terms c.args.hands.now (λ i x l. c.loop-hand.invariant i x (let o = c.loop-hand-test.false in omega (arith, l, o))), λ _. refl)
