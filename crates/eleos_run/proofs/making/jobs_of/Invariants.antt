use Rattle.std.proofs.Common.{◌≡◌, ◌-◌, ◌++◌, length}
use Rattle.eleos_run.specs.Callers.{AreNewJobs}
use Rattle.eleos_run.proofs.making.jobs_of.Given as goal

-- the jobs so far are those of the first actors, and the clients of the first callers are gone
abbrev pub invariant-loop-pass : goal.invariant-loop-pass
invariant-loop-pass g l = record {
  split : l.fn.passes.items ≡ l.yielded ++ l.pass-iterator.rest.items;
  len : length l.pass-iterator.rest.items ≡ l.pass-iterator.rest.len;
  count : length l.jobs.items ≡ length l.yielded;
  clients : length l.clients.items ≡ length l.fn.clients.items - length l.yielded;
  jobs : AreNewJobs l.trace l.machine 0 l.jobs.items;
}
