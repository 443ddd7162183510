use Rattle.std.proofs.Common.{◌≡◌, ◌≤◌, ◌++◌, vec_capacity}
use Rattle.eleos_run.specs.Callers.{lines_of, passes_of}
use Rattle.eleos_run.proofs.parting.part.Given as goal

-- the passes and the lines so far are those of the jobs so far
abbrev pub invariant-loop-job : goal.invariant-loop-job
invariant-loop-job g l = record {
  split : l.fn.jobs.items ≡ l.yielded ++ l.job-iterator.rest.items;
  passes : l.passes.items ≡ passes_of l.yielded;
  lines : l.log.items ≡ lines_of l.yielded;
  passes_capacity : vec_capacity l.initial.passes ≤ vec_capacity l.passes;
  log_capacity : vec_capacity l.initial.log ≤ vec_capacity l.log;
}
