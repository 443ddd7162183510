use Rattle.std.proofs.Common.{◌≡◌, []}
use Rattle.turn_bench.proofs.worker.run.Given as goal

abbrev pub invariant-loop : goal.invariant-loop
invariant-loop g l = (l.hand.home ≡ l.initial.hand.home) × (l.hand.turns ≡ []) × (l.hand.number ≡ l.initial.hand.number)
