use Rattle.eleos_plot.proofs.Fitting.{cells_fit as law}
use Rattle.eleos_plot.proofs.laws.cells_fit.Goals as goal

pub returns : goal.returns
returns c = record { fit = law }
