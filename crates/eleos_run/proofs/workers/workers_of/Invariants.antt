use Rattle.std.proofs.Common.{◌+◌, ◌≤◌, length}
use Rattle.std.specs.List.{All}
use Rattle.eleos_work.specs.Passes.{IsNewPass}
use Rattle.eleos_run.specs.Workers.{AreWorkers}
use Rattle.eleos_run.proofs.workers.workers_of.Given as goal

-- the workers so far have passes of these jobs, and there is one for each of the others
abbrev pub invariant-loop-worker : goal.invariant-loop-worker
invariant-loop-worker g l = record {
  new : All (IsNewPass l.jobs) l.passes.items;
  enough : l.count ≤ l.worker + length l.passes.items;
  workers : AreWorkers l.jobs l.workers.items;
}
