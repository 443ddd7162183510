use Rattle.std.proofs.Common.{false, arith}
use Rattle.eleos_core.proofs.FreeRuns.{ends_here, gap_here, gap_last, no_gap, gap_passed, order_here}
use Rattle.eleos_core.proofs.blocks.lowest_run.Goals as goal

pub returns-then-len-block : goal.returns-then-len-block
returns-then-len-block c = gap_here c.args.blocks.now c.args.subs c.args.len c.loop-block.end c.loop-block.block-index c.requires.some c.requires.in_order c.loop-block.invariant.in_order c.loop-block.invariant.same _ c.loop-block-test.true c.if-len-block.true

pub overflow_add-end : goal.overflow_add-end
overflow_add-end c =
    omega (arith, ends_here c.args.blocks.now c.args.subs c.args.len c.loop-block.end c.loop-block.block-index c.requires.some c.requires.in_order c.loop-block.invariant.in_order c.loop-block.invariant.same (record { start = 0; len = 0; owner = 0; is_shared = false }) c.loop-block-test.true)

pub loop-block-preserved : goal.loop-block-preserved
loop-block-preserved c =
    let order = order_here c.args.blocks.now c.args.subs c.args.len c.loop-block.end c.loop-block.block-index c.requires.some c.requires.in_order c.loop-block.invariant.in_order c.loop-block.invariant.same _ c.loop-block-test.true in
    record {
      in_order = order.2;
      same = gap_passed c.args.blocks.now c.args.subs c.args.len c.loop-block.end c.loop-block.block-index c.requires.some c.requires.in_order c.loop-block.invariant.in_order c.loop-block.invariant.same _ c.loop-block-test.true c.if-len-block.false;
    }

pub returns-then-len-subs : goal.returns-then-len-subs
returns-then-len-subs c = gap_last c.args.blocks.now c.args.subs c.args.len c.loop-block.end c.loop-block.block-index c.requires.some c.requires.in_order c.loop-block.invariant.in_order c.loop-block.invariant.same c.loop-block-test.false c.if-len-subs.true

pub returns-else-len-subs : goal.returns-else-len-subs
returns-else-len-subs c = no_gap c.args.blocks.now c.args.subs c.args.len c.loop-block.end c.loop-block.block-index c.requires.some c.requires.in_order c.loop-block.invariant.in_order c.loop-block.invariant.same c.loop-block-test.false c.if-len-subs.false
