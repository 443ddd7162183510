use Rattle.std.proofs.Common.{◌≡◌, ◌+◌, drop, map, option_map}
use Rattle.eleos_base.specs.declared.plan.EnclavePlan.{EnclavePlan}
use Rattle.eleos_base.specs.Places.{home_of}
use Rattle.eleos_base.specs.Runs.{run_with}
use Rattle.eleos_core.proofs.frames.home_of.Given as goal

-- the page is none of the enclaves so far: it is that of the others which has the number that is left
abbrev pub invariant-loop-enclave : goal.invariant-loop-enclave
invariant-loop-enclave l = home_of l.plan l.page ≡ option_map (λ run. l.enclave + run) (run_with (map (λ (made : EnclavePlan). made.pages) (drop l.enclave l.plan.enclaves)) l.left)
