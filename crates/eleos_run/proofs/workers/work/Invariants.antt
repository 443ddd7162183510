use Rattle.eleos_work.specs.Passes.{IsOf}
use Rattle.eleos_run.proofs.workers.work.Given as goal

abbrev pub invariant-loop : goal.invariant-loop
invariant-loop g l = IsOf l.jobs l.worker.pass
