use Rattle.eleos_plot.proofs.Fitting.{cells_show as law}
use Rattle.eleos_plot.proofs.laws.fit_cells_show.Goals as goal

pub returns : goal.returns
returns c = record { show = law }
