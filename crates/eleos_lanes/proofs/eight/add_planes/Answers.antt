use Rattle.std.proofs.Common.{bit_xor, ◌<◌, ◌∙◌, arith}
use Rattle.std.proofs.lemmas.Nat.Bits.{bit_at-lt}
use Rattle.eleos_lanes.specs.Planes.{add_block, block_at, lane_of, plane_bit, plane_byte}
use Rattle.eleos_lanes.proofs.Bits.{same_byte, sixteen}
use Rattle.eleos_lanes.proofs.MixedBytes.{byte_of-differ}
use Rattle.eleos_lanes.proofs.eight.add_planes.Goals as goal

pub returns : goal.returns
unfolding block_at add_block plane_byte
returns c b low =
    let v = c.args.v in
    let key = c.vectors.result in
    rw (← c.vectors.ensures)
    (sixteen _ (λ i. bit_xor (plane_byte v b (lane_of i)) (plane_byte key b (lane_of i)))
    (λ n low_n. let i = lane_of n in let below : lane_of n < 16 = omega arith in
    same_byte (c.xor.ensures i b below) (c.xor-2.ensures i b below) (c.xor-3.ensures i b below) (c.xor-4.ensures i b below) (c.xor-5.ensures i b below) (c.xor-6.ensures i b below) (c.xor-7.ensures i b below) (c.xor-8.ensures i b below)
    ∙ byte_of-differ (plane_bit v b i 0) (plane_bit v b i 1) (plane_bit v b i 2) (plane_bit v b i 3) (plane_bit v b i 4) (plane_bit v b i 5) (plane_bit v b i 6) (plane_bit v b i 7)
    (plane_bit key b i 0) (plane_bit key b i 1) (plane_bit key b i 2) (plane_bit key b i 3) (plane_bit key b i 4) (plane_bit key b i 5) (plane_bit key b i 6) (plane_bit key b i 7)
    (bit_at-lt _ b) (bit_at-lt _ b) (bit_at-lt _ b) (bit_at-lt _ b) (bit_at-lt _ b) (bit_at-lt _ b) (bit_at-lt _ b) (bit_at-lt _ b) (bit_at-lt _ b) (bit_at-lt _ b) (bit_at-lt _ b) (bit_at-lt _ b) (bit_at-lt _ b) (bit_at-lt _ b)))
