use Rattle.eleos_core.proofs.OwnAllots.{allocs_new}
use Rattle.eleos_core.proofs.laws.allotted_blocks_are_new.Goals as goal

pub returns : goal.returns
returns c = record { new = allocs_new }
