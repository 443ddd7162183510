use Rattle.std.proofs.Common.{◌≡◌}
use Rattle.eleos_ring.proofs.cells.Ring.call.Given as goal

abbrev pub invariant-loop : goal.invariant-loop
invariant-loop g l = (l.self ≡ l.initial.self) × (l.ticket ≡ l.initial.ticket) × (l.buf ≡ l.initial.buf)
