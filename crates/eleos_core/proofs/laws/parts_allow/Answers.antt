use Rattle.eleos_core.proofs.Judging.{parts_allow as law}
use Rattle.eleos_core.proofs.laws.parts_allow.Goals as goal

pub returns : goal.returns
returns c = record { allow = law }
