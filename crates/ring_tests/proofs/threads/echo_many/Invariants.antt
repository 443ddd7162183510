use Rattle.std.proofs.Common.{◌≡◌}
use Rattle.eleos_ring.specs.Rings.{idle}
use Rattle.ring_tests.proofs.threads.echo_many.Given as goal

abbrev pub invariant-loop-i : goal.invariant-loop-i
invariant-loop-i g l = l.ring ≡ idle l.client l.i
