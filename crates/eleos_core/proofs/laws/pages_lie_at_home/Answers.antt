use Rattle.eleos_core.specs.Seals.{seals_by}
use Rattle.eleos_core.proofs.AtHome.{at_home}
use Rattle.eleos_core.proofs.laws.pages_lie_at_home.Goals as goal

pub returns : goal.returns
returns c = record { at_home = λ k key h run. at_home k (seals_by key) h run.legal }
