use Rattle.eleos_core.proofs.Owners.{lists_owned}
use Rattle.eleos_core.proofs.laws.lists_are_owned.Goals as goal

pub returns : goal.returns
returns c = record { owned = lists_owned }
