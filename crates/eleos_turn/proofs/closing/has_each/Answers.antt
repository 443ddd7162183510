use Rattle.std.proofs.Common.{arith, ℕ, ◌+◌, refl, sym, ◌∙◌, subst}
use mathlib.Core.Logic.{dite}
use native.Mathlib.Decide.{ℕ_discrete}
use Rattle.eleos_turn.specs.Closings.{HasNumber}
use Rattle.eleos_turn.proofs.closing.has_each.Goals as goal

pub returns-then-not-has_number : goal.returns-then-not-has_number
returns-then-not-has_number g c = (λ no. absurd (cc no), λ all. sym c.if-not-has_number.true ∙ c.has_number.ensures.1 (all.each (c.loop-i.i + 1) (omega arith) (let l = c.loop-i-test.true in omega (arith, l))))

pub loop-i-preserved : goal.loop-i-preserved
loop-i-preserved g c k low high = dite (ℕ_discrete k (c.loop-i.i + 1))
    (λ e. subst (λ (n : ℕ). HasNumber n c.args.hands.now) (sym e) (c.has_number.ensures.0 c.if-not-has_number.false))
    (λ ne. c.loop-i.invariant k low (omega (arith, high, ne)))

pub returns : goal.returns
returns g c = (λ _. record { count = c.requires.count; each = λ k low high. c.loop-i.invariant k low (let l = c.loop-i-test.false in omega (arith, high, l)); done = c.requires.done }, λ _. refl)
