use Rattle.std.proofs.Common.{◌≡◌}
use Rattle.eleos_ring.specs.Rings.{idle}
use Rattle.ring_tests.proofs.store.make_all.Given as goal

abbrev pub invariant-loop-call : goal.invariant-loop-call
invariant-loop-call g l = l.ring ≡ idle 7 l.call-index
