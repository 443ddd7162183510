use Rattle.eleos_plot.proofs.Stamping.{plot_allows as law}
use Rattle.eleos_plot.proofs.laws.plot_allows.Goals as goal

pub returns : goal.returns
returns c = record { allows = law }
