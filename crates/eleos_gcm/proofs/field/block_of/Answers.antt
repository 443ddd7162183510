use Rattle.eleos_base.specs.BlockField.{block_of}
use Rattle.eleos_gcm.proofs.field.block_of.Goals as goal

pub returns : goal.returns
unfolding block_of
returns c = c.to_be_bytes.ensures
