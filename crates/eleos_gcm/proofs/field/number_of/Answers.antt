use Rattle.eleos_base.specs.BlockField.{number_of}
use Rattle.eleos_gcm.proofs.field.number_of.Goals as goal

pub returns : goal.returns
unfolding number_of
returns c = c.from_be_bytes.ensures
