use Rattle.eleos_core.proofs.OwnReads.{own_blocks_live}
use Rattle.eleos_core.proofs.laws.own_blocks_are_live.Goals as goal

pub returns : goal.returns
returns c = record { live = own_blocks_live }
