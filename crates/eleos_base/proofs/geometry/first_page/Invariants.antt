use Rattle.std.proofs.Common.{◌≡◌, take, sum_by}
use Rattle.eleos_base.specs.declared.plan.EnclavePlan.{EnclavePlan}
use Rattle.eleos_base.proofs.geometry.first_page.Given as goal

abbrev pub invariant-loop-made : goal.invariant-loop-made
invariant-loop-made l = l.first ≡ sum_by (λ (made : EnclavePlan). made.pages) (take l.made-index l.before)
