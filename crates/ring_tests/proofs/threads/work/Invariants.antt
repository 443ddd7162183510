use Rattle.eleos_work.specs.Passes.{IsOf}
use Rattle.ring_tests.proofs.threads.work.Given as goal

abbrev pub invariant-loop : goal.invariant-loop
invariant-loop g l = IsOf l.jobs l.pass
