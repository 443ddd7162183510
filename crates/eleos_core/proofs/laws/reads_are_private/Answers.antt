use Rattle.eleos_core.proofs.OwnReads.{reads_private}
use Rattle.eleos_core.proofs.laws.reads_are_private.Goals as goal

pub returns : goal.returns
returns c = record { private = reads_private }
