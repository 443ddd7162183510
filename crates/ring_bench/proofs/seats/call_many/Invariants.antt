use Rattle.std.proofs.Common.{◌≡◌}
use Rattle.eleos_ring.specs.Rings.{idle}
use Rattle.ring_bench.proofs.seats.call_many.Given as goal

abbrev pub invariant-loop-round : goal.invariant-loop-round
invariant-loop-round g l = l.ring ≡ idle l.client l._round
