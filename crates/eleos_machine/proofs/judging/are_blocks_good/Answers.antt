use Rattle.std.proofs.Common.{sym}
use Rattle.eleos_machine.proofs.Judged.{good_more}
use Rattle.eleos_machine.proofs.judging.are_blocks_good.Goals as goal

pub loop-i-preserved : goal.loop-i-preserved
loop-i-preserved c = good_more c.args.plan.now c.as_slice-blocks.result.now c.loop-i.i _ _ c.loop-i-test.true (sym c.if-not-is_block_good.ensures) c.loop-i.invariant
