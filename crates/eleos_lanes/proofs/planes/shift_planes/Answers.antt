use Rattle.std.proofs.Common.{ℕ, ◌+◌, ◌*◌, ◌/◌, ◌%◌, ◌<◌, arith}
use Rattle.eleos_base.specs.AesState.{shift_rows}
use Rattle.eleos_lanes.specs.Planes.{block_at, lane_of, plane_byte}
use Rattle.eleos_lanes.proofs.Bits.{same_byte, sixteen}
use Rattle.eleos_lanes.proofs.planes.shift_planes.Goals as goal

pub returns : goal.returns
unfolding block_at shift_rows plane_byte
returns c b low =
    let source : ℕ → ℕ = λ i. 4 * (i / 4) + (i % 4 + i / 4) % 4 in
    sixteen _ (λ i. plane_byte c.args.v b (source (lane_of i)))
    (λ n low_n. let i = lane_of n in let below : lane_of n < 16 = omega arith in
    same_byte (c.rows_shifted.ensures i b below) (c.rows_shifted-2.ensures i b below)
    (c.rows_shifted-3.ensures i b below) (c.rows_shifted-4.ensures i b below) (c.rows_shifted-5.ensures i b below)
    (c.rows_shifted-6.ensures i b below) (c.rows_shifted-7.ensures i b below) (c.rows_shifted-8.ensures i b below))
