use Rattle.eleos_core.proofs.Residents.{shares_are_all}
use Rattle.eleos_core.proofs.laws.shares_are_all.Goals as goal

pub returns : goal.returns
returns c = record { shares = shares_are_all }
