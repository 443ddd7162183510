use Rattle.eleos_core.proofs.KeepingUp.{keep_up}
use Rattle.eleos_core.proofs.Ordered.{none_empty}
use Rattle.eleos_core.proofs.laws.parts_keep_up.Goals as goal

pub returns : goal.returns
returns c = record { keep_up = λ k x past d good. keep_up k (none_empty k good) x past d good }
