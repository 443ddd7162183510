-- The workers of a run.
use Rattle.std.specs.Prelude.{List, All}
use Rattle.eleos_work.specs.declared.jobs.Jobs.{Jobs}
use Rattle.eleos_work.specs.Passes.{IsOf}
use Rattle.eleos_run.specs.declared.workers.Worker.{Worker}

-- each worker has a pass of these jobs
abbrev pub AreWorkers : {Q : Type 0} → Jobs → List (Worker Q) → Type 0
AreWorkers jobs workers = All (λ worker. IsOf jobs worker.pass) workers
