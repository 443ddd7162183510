use Rattle.eleos_alloc.proofs.Complete.{allocs_complete}
use Rattle.eleos_alloc.proofs.laws.allocs_are_complete.Goals as goal

pub returns : goal.returns
returns c = record { complete = allocs_complete }
