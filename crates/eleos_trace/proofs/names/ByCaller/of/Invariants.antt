use Rattle.std.proofs.Common.{◌≡◌, replicate}
use Rattle.std.specs.FinSet as set
use Rattle.eleos_trace.proofs.names.ByCaller.of.Given as goal

-- so many sets without a name
abbrev pub invariant-loop : goal.invariant-loop
invariant-loop l = l.sets.items ≡ replicate l.counter set.empty
