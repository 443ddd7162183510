use Rattle.eleos_core.proofs.LinkedPages.{linked_pages}
use Rattle.eleos_core.proofs.laws.linked_pages_stay.Goals as goal

pub returns : goal.returns
returns c = record { linked = linked_pages }
