use Rattle.std.proofs.Common.{arith}
use Rattle.eleos_lanes.proofs.Masks.{masked}
use Rattle.eleos_lanes.proofs.field.where_set.Goals as goal

pub returns : goal.returns
returns c = masked c.args.bit c.args.v c.requires (omega arith)
