use Rattle.eleos_work.specs.Passes.{IsOf}
use Rattle.ring_tests.proofs.workers.answer_all.Given as goal

abbrev pub invariant-loop-job : goal.invariant-loop-job
invariant-loop-job g l = IsOf l.jobs l.pass
