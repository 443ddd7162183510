use Rattle.std.proofs.Common.{arith}
use Rattle.eleos_base.specs.SBox.{s_box}
use Rattle.eleos_base.specs.AesState.{sub_bytes}
use Rattle.eleos_lanes.specs.Planes.{block_at, lane_of, plane_byte}
use Rattle.eleos_lanes.proofs.Bits.{sixteen}
use Rattle.eleos_lanes.proofs.circuit.sub_planes.Goals as goal

pub returns : goal.returns
unfolding block_at plane_byte sub_bytes
returns c b low =
    sixteen _ (λ i. s_box (plane_byte c.args.x b (lane_of i))) (λ i below. c.circuit.ensures (lane_of i) b (omega arith) low)
