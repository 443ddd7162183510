use Rattle.std.proofs.Common.{◌≡◌, []}
use Rattle.turn_tests.proofs.counters.raise_many.Given as goal

abbrev pub invariant-loop-i : goal.invariant-loop-i
invariant-loop-i g l = (l.hand.home ≡ l.initial.hand.home) × (l.hand.turns ≡ []) × (l.hand.number ≡ l.initial.hand.number)
