use Rattle.std.proofs.Common.{◌≡◌, ◌≤◌, All, [], take, drop}
use Rattle.eleos_base.specs.declared.plan.BlockPlan.{BlockPlan}
use Rattle.eleos_machine.specs.Judging.{are_good_behind}
use Rattle.eleos_machine.proofs.judging.are_blocks_good.Given as goal

-- all are good if those that are left are good behind the others
abbrev pub invariant-loop-i : goal.invariant-loop-i
invariant-loop-i l = (are_good_behind l.plan (take l.i l.blocks) (drop l.i l.blocks) ≡ are_good_behind l.plan [] l.blocks) × All (λ (earlier : BlockPlan). 1 ≤ earlier.bytes) (take l.i l.blocks)
