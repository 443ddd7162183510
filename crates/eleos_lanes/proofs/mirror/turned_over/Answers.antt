use Rattle.std.proofs.Common.{arith}
use Rattle.eleos_lanes.specs.Planes.{lane_of}
use Rattle.eleos_lanes.proofs.Bits.{lane_of_swizzled}
use Rattle.eleos_lanes.proofs.mirror.turned_over.Goals as goal

pub returns : goal.returns
returns c i j below =
    lane_of_swizzled c.args.v (lane_of) c.fits-v.0 (λ k low. omega arith) i j below
