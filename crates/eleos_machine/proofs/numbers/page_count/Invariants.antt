use Rattle.std.proofs.Common.{◌≡◌, take, sum_by}
use Rattle.eleos_base.specs.declared.plan.EnclavePlan.{EnclavePlan}
use Rattle.eleos_machine.proofs.numbers.page_count.Given as goal

-- those of the enclaves so far
abbrev pub invariant-loop-made : goal.invariant-loop-made
invariant-loop-made l = l.pages ≡ sum_by (λ (made : EnclavePlan). made.pages) (take l.made-index l.made-items)
