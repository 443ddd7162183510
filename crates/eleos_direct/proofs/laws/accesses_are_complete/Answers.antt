use Rattle.eleos_direct.proofs.Complete.{accesses_complete}
use Rattle.eleos_direct.proofs.laws.accesses_are_complete.Goals as goal

pub returns : goal.returns
returns c = record { complete = accesses_complete }
