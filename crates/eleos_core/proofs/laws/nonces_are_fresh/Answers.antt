use Rattle.eleos_core.proofs.Fresh.{fresh_nonces}
use Rattle.eleos_core.proofs.laws.nonces_are_fresh.Goals as goal

pub returns : goal.returns
returns c = record { fresh = fresh_nonces }
