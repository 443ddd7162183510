use Rattle.eleos_core.proofs.AtHome.{holders_at_home}
use Rattle.eleos_core.proofs.laws.holders_are_at_home.Goals as goal

pub returns : goal.returns
returns c = record { at_home = holders_at_home }
