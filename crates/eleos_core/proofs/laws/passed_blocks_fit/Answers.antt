use Rattle.eleos_core.proofs.BlockSizes.{blocks_fit}
use Rattle.eleos_core.proofs.laws.passed_blocks_fit.Goals as goal

pub returns : goal.returns
returns c = record { fit = blocks_fit }
