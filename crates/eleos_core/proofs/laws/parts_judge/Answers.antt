use Rattle.eleos_core.proofs.Judging.{parts_judge as law}
use Rattle.eleos_core.proofs.laws.parts_judge.Goals as goal

pub returns : goal.returns
returns c = record { judge = law }
