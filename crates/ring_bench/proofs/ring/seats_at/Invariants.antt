use Rattle.std.proofs.Common.{All}
use Rattle.eleos_work.specs.Passes.{IsNewPass}
use Rattle.ring_bench.proofs.ring.seats_at.Given as goal

abbrev pub invariant-loop-worker : goal.invariant-loop-worker
invariant-loop-worker l = All (IsNewPass l.site.jobs.now) l.passes.items

abbrev pub invariant-loop-client : goal.invariant-loop-client
invariant-loop-client l = All (IsNewPass l.site.jobs.now) l.passes.items
