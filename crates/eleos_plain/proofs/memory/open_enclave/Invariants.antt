use Rattle.std.proofs.Common.{◌≡◌, fold, take}
use Rattle.eleos_base.specs.Places.{subs}
use Rattle.eleos_base.specs.Plain.{blank}
use Rattle.eleos_plain.proofs.Opening.{with_own}
use Rattle.eleos_plain.proofs.memory.open_enclave.Given as goal

-- the header blocks so far are in
abbrev pub invariant-loop-block : goal.invariant-loop-block
invariant-loop-block l = l.memory ≡ fold (with_own l.enclave) (blank 1024 (subs l.plan l.enclave)) (take l.block-index l.plan.blocks)
