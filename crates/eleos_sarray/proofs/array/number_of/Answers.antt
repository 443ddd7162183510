use Rattle.eleos_sarray.specs.Arrays.{number_of}
use Rattle.eleos_sarray.proofs.Numbers.{bytes_back}
use Rattle.eleos_sarray.proofs.array.number_of.Goals as goal

pub returns-clause-number : goal.returns-clause-number
unfolding number_of
returns-clause-number c = c.from_le_bytes.ensures

pub returns-clause-back : goal.returns-clause-back
unfolding number_of
returns-clause-back c = bytes_back _ _ c.told-bytes c.fits-bytes c.from_le_bytes.ensures
