use Rattle.eleos_base.specs.Plain.{shared_at}
use Rattle.eleos_core.proofs.Changes.{map_over_at}
use Rattle.eleos_core.proofs.blocks.share_at.Goals as goal

pub loop-block-preserved : goal.loop-block-preserved
loop-block-preserved c = rw c.shared_at-shared.ensures (map_over_at (shared_at 1024 c.args.enclave c.args.at) c.args.blocks.now c.loop-block.blocks c.loop-block.block-index _ c.loop-block-test.true c.loop-block.invariant)
