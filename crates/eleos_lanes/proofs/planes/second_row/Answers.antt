use Rattle.std.proofs.Common.{arith}
use Rattle.eleos_lanes.specs.Planes.{turned}
use Rattle.eleos_lanes.proofs.Bits.{lane_of_swizzled}
use Rattle.eleos_lanes.proofs.planes.second_row.Goals as goal

pub returns : goal.returns
returns c i j below =
    lane_of_swizzled c.args.v (λ k. turned k 2) c.fits-v.0 (λ k low. omega arith) i j below
