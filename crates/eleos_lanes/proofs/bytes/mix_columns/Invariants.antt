use Rattle.std.proofs.Common.{◌-◌}
use Rattle.eleos_base.specs.AesState.{mix_columns}
use Rattle.eleos_lanes.proofs.States.{AreMixed}
use Rattle.eleos_lanes.proofs.bytes.mix_columns.Given as goal

abbrev pub invariant-loop-at : goal.invariant-loop-at
invariant-loop-at l = AreMixed mix_columns l.fn.states l.states l.at

abbrev pub decreases-loop-at : goal.decreases-loop-at
decreases-loop-at l = l.len - l.at
