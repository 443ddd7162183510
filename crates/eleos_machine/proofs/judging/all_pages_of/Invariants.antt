use Rattle.std.proofs.Common.{◌≡◌, ◌+◌, ◌*◌, ◌≤◌, take, sum_by}
use Rattle.eleos_base.specs.declared.plan.EnclavePlan.{EnclavePlan}
use Rattle.eleos_machine.proofs.judging.all_pages_of.Given as goal

-- those of the enclaves so far, each of which has at most so many
abbrev pub invariant-loop-enclave : goal.invariant-loop-enclave
invariant-loop-enclave l = (l.pages ≡ sum_by (λ (made : EnclavePlan). made.pages) (take l.enclave-index l.enclave-items)) × (l.pages ≤ (l.enclave-index + 1) * 4294967295)
