use Rattle.eleos_core.proofs.Runs.{runs-plain}
use Rattle.eleos_core.proofs.laws.calls_run_plain.Goals as goal

pub returns : goal.returns
returns c = record { one_run = runs-plain }
