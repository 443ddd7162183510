use Rattle.std.proofs.Common.{◌≡◌, drop}
use Rattle.eleos_core.specs.Order.{AreInOrder}
use Rattle.eleos_core.proofs.FreeRuns.{gap}
use Rattle.eleos_core.proofs.blocks.lowest_run.Given as goal

-- the lowest gap of all is the lowest among the blocks that are left
abbrev pub invariant-loop-block : goal.invariant-loop-block
invariant-loop-block l = record {
  in_order : AreInOrder l.end l.subs (drop l.block-index l.blocks);
  same : gap l.subs l.len l.end (drop l.block-index l.blocks) ≡ gap l.subs l.len 0 l.blocks;
}
