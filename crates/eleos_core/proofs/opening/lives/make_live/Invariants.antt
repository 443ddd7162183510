use Rattle.std.proofs.Common.{◌≡◌, [], take}
use Rattle.std.specs.List.{fold}
use Rattle.eleos_core.proofs.OpeningBlocks.{with_own}
use Rattle.eleos_core.specs.Order.{AreInOrder}
use Rattle.eleos_core.proofs.opening.lives.make_live.Given as goal

-- the header blocks so far are in, and in order
abbrev pub invariant-loop-block : goal.invariant-loop-block
invariant-loop-block l = record {
  same : l.blocks.items ≡ fold (with_own l.subs l.enclave) [] (take l.block-index l.plan.blocks);
  in_order : AreInOrder 0 l.subs l.blocks.items;
}
