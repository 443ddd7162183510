use Rattle.std.proofs.Common.{◌+◌, ◌*◌, ◌/◌, ◌%◌, arith}
use Rattle.eleos_lanes.proofs.Bits.{lane_of_swizzled}
use Rattle.eleos_lanes.proofs.planes.rows_shifted.Goals as goal

pub returns : goal.returns
returns c i j below =
    lane_of_swizzled c.args.v (λ k. 4 * (k / 4) + (k % 4 + k / 4) % 4) c.fits-v.0 (λ k low. omega arith) i j below
