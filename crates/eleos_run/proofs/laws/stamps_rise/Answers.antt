use Rattle.eleos_run.proofs.Rising.{all_rise}
use Rattle.eleos_run.proofs.laws.stamps_rise.Goals as goal

pub returns : goal.returns
returns c = record { rise = all_rise }
