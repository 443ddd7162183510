use Rattle.eleos_plot.proofs.Stamping.{plot_agrees}
use Rattle.eleos_plot.proofs.laws.plot_agrees.Goals as goal

pub returns : goal.returns
returns c = record { agrees = plot_agrees }
