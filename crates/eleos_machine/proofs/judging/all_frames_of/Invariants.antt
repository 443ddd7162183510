use Rattle.std.proofs.Common.{◌≡◌, ◌+◌, ◌*◌, ◌≤◌, take, sum_by}
use Rattle.eleos_base.specs.declared.plan.EnclavePlan.{EnclavePlan}
use Rattle.eleos_machine.proofs.judging.all_frames_of.Given as goal

-- those of the enclaves so far, each of which has at most so many
abbrev pub invariant-loop-enclave : goal.invariant-loop-enclave
invariant-loop-enclave l = (l.frames ≡ l.plan.spare + sum_by (λ (made : EnclavePlan). made.frames) (take l.enclave-index l.enclave-items)) × (l.frames ≤ (l.enclave-index + 1) * 4294967295)
