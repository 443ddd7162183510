use Rattle.eleos_base.specs.BlockField.{times_power_of_x}
use Rattle.eleos_lanes.proofs.field.times_x4.Goals as goal

pub returns : goal.returns
unfolding times_power_of_x
returns c = rw (c.times_x-4.ensures, c.times_x-3.ensures, c.times_x-2.ensures, c.times_x.ensures)
