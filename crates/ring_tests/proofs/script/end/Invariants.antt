use Rattle.std.proofs.Common.{◌≡◌}
use Rattle.ring_tests.proofs.script.end.Given as goal

abbrev pub invariant-loop : goal.invariant-loop
invariant-loop g l = (l.ring ≡ l.initial.ring) × (l.ticket ≡ l.initial.ticket)
