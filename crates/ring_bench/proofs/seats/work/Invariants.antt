use Rattle.eleos_work.specs.Passes.{IsOf}
use Rattle.ring_bench.proofs.seats.work.Given as goal

abbrev pub invariant-loop : goal.invariant-loop
invariant-loop g l = IsOf l.site.jobs.now l.pass
