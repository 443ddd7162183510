use Rattle.eleos_plot.proofs.Stamping.{kept_is_made}
use Rattle.eleos_plot.proofs.laws.kept_is_made.Goals as goal

pub returns : goal.returns
returns c = record { kept = kept_is_made }
