use Rattle.eleos_kv.proofs.OneRun.{one_map}
use Rattle.eleos_kv.proofs.laws.commands_are_one_map.Goals as goal

pub returns : goal.returns
returns c = one_map
