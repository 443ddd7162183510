use Rattle.std.proofs.Common.{◌≡◌, ℕ, ◌<◌, [], ◌∷◌, bit_xor, refl, ap, ap₂, ◌∙◌, arith}
use Rattle.std.proofs.lemmas.Nat.Bits.{bit_at-lt}
use Rattle.eleos_base.specs.ByteField.{product}
use Rattle.eleos_lanes.specs.Planes.{block_at, differ, lane_bit, lane_of, plane_bit, plane_byte, turned}
use Rattle.eleos_lanes.proofs.Bits.{same_byte, sixteen}
use Rattle.eleos_lanes.proofs.MixedBytes.{byte_of-differ, differ-lt, mixed_byte, mixed_on_bits, mixed_state, plane_byte-lt}
use Rattle.eleos_lanes.proofs.planes.mix_planes.Goals as goal

-- byte i of block b is mixed from its column
mixed : (c : goal.After-xor-11) (b i : ℕ) → i < 16
    → plane_byte
    (c.xor.result ∷ c.xor-3.result ∷ c.xor-4.result ∷ c.xor-6.result ∷ c.xor-8.result ∷ c.xor-9.result ∷ c.xor-10.result ∷ c.xor-11.result ∷ []) b i
    ≡ mixed_byte (plane_byte c.args.v b i) (plane_byte c.args.v b (turned i 1))
    (plane_byte c.args.v b (turned i 2)) (plane_byte c.args.v b (turned i 3))
unfolding plane_byte
mixed c b i h =
    let v = c.args.v in
    let pair =
    same_byte (c.column_sums.ensures.pair i b h) (c.column_sums-2.ensures.pair i b h) (c.column_sums-3.ensures.pair i b h) (c.column_sums-4.ensures.pair i b h) (c.column_sums-5.ensures.pair i b h) (c.column_sums-6.ensures.pair i b h) (c.column_sums-7.ensures.pair i b h) (c.column_sums-8.ensures.pair i b h)
    ∙ byte_of-differ (plane_bit v b i 0) (plane_bit v b i 1) (plane_bit v b i 2) (plane_bit v b i 3) (plane_bit v b i 4) (plane_bit v b i 5) (plane_bit v b i 6) (plane_bit v b i 7)
    (plane_bit v b (turned i 1) 0) (plane_bit v b (turned i 1) 1) (plane_bit v b (turned i 1) 2) (plane_bit v b (turned i 1) 3) (plane_bit v b (turned i 1) 4) (plane_bit v b (turned i 1) 5) (plane_bit v b (turned i 1) 6) (plane_bit v b (turned i 1) 7)
    (bit_at-lt _ b) (bit_at-lt _ b) (bit_at-lt _ b) (bit_at-lt _ b) (bit_at-lt _ b) (bit_at-lt _ b) (bit_at-lt _ b) (bit_at-lt _ b) (bit_at-lt _ b) (bit_at-lt _ b) (bit_at-lt _ b) (bit_at-lt _ b) (bit_at-lt _ b) (bit_at-lt _ b) in
    let last =
    byte_of-differ (plane_bit v b (turned i 2) 0) (plane_bit v b (turned i 2) 1) (plane_bit v b (turned i 2) 2) (plane_bit v b (turned i 2) 3) (plane_bit v b (turned i 2) 4) (plane_bit v b (turned i 2) 5) (plane_bit v b (turned i 2) 6) (plane_bit v b (turned i 2) 7)
    (plane_bit v b (turned i 3) 0) (plane_bit v b (turned i 3) 1) (plane_bit v b (turned i 3) 2) (plane_bit v b (turned i 3) 3) (plane_bit v b (turned i 3) 4) (plane_bit v b (turned i 3) 5) (plane_bit v b (turned i 3) 6) (plane_bit v b (turned i 3) 7)
    (bit_at-lt _ b) (bit_at-lt _ b) (bit_at-lt _ b) (bit_at-lt _ b) (bit_at-lt _ b) (bit_at-lt _ b) (bit_at-lt _ b) (bit_at-lt _ b) (bit_at-lt _ b) (bit_at-lt _ b) (bit_at-lt _ b) (bit_at-lt _ b) (bit_at-lt _ b) (bit_at-lt _ b) in
    let others =
    same_byte (c.column_sums.ensures.others i b h) (c.column_sums-2.ensures.others i b h) (c.column_sums-3.ensures.others i b h) (c.column_sums-4.ensures.others i b h) (c.column_sums-5.ensures.others i b h) (c.column_sums-6.ensures.others i b h) (c.column_sums-7.ensures.others i b h) (c.column_sums-8.ensures.others i b h)
    ∙ byte_of-differ (plane_bit v b (turned i 1) 0) (plane_bit v b (turned i 1) 1) (plane_bit v b (turned i 1) 2) (plane_bit v b (turned i 1) 3) (plane_bit v b (turned i 1) 4) (plane_bit v b (turned i 1) 5) (plane_bit v b (turned i 1) 6) (plane_bit v b (turned i 1) 7)
    (differ (plane_bit v b (turned i 2) 0) (plane_bit v b (turned i 3) 0)) (differ (plane_bit v b (turned i 2) 1) (plane_bit v b (turned i 3) 1)) (differ (plane_bit v b (turned i 2) 2) (plane_bit v b (turned i 3) 2)) (differ (plane_bit v b (turned i 2) 3) (plane_bit v b (turned i 3) 3)) (differ (plane_bit v b (turned i 2) 4) (plane_bit v b (turned i 3) 4)) (differ (plane_bit v b (turned i 2) 5) (plane_bit v b (turned i 3) 5)) (differ (plane_bit v b (turned i 2) 6) (plane_bit v b (turned i 3) 6)) (differ (plane_bit v b (turned i 2) 7) (plane_bit v b (turned i 3) 7))
    (bit_at-lt _ b) (bit_at-lt _ b) (bit_at-lt _ b) (bit_at-lt _ b) (bit_at-lt _ b) (bit_at-lt _ b) (bit_at-lt _ b)
    (differ-lt _ _ (bit_at-lt _ b) (bit_at-lt _ b)) (differ-lt _ _ (bit_at-lt _ b) (bit_at-lt _ b)) (differ-lt _ _ (bit_at-lt _ b) (bit_at-lt _ b)) (differ-lt _ _ (bit_at-lt _ b) (bit_at-lt _ b)) (differ-lt _ _ (bit_at-lt _ b) (bit_at-lt _ b)) (differ-lt _ _ (bit_at-lt _ b) (bit_at-lt _ b)) (differ-lt _ _ (bit_at-lt _ b) (bit_at-lt _ b)) in
    same_byte (c.xor.ensures i b h) (c.xor-3.ensures i b h ∙ ap₂ differ (c.xor-2.ensures i b h) refl) (c.xor-4.ensures i b h) (c.xor-6.ensures i b h ∙ ap₂ differ (c.xor-5.ensures i b h) refl) (c.xor-8.ensures i b h ∙ ap₂ differ (c.xor-7.ensures i b h) refl) (c.xor-9.ensures i b h) (c.xor-10.ensures i b h) (c.xor-11.ensures i b h)
    ∙ mixed_on_bits (lane_bit c.column_sums.result.0 i b) (lane_bit c.column_sums-2.result.0 i b) (lane_bit c.column_sums-3.result.0 i b) (lane_bit c.column_sums-4.result.0 i b) (lane_bit c.column_sums-5.result.0 i b) (lane_bit c.column_sums-6.result.0 i b) (lane_bit c.column_sums-7.result.0 i b) (lane_bit c.column_sums-8.result.0 i b)
    (lane_bit c.column_sums.result.1 i b) (lane_bit c.column_sums-2.result.1 i b) (lane_bit c.column_sums-3.result.1 i b) (lane_bit c.column_sums-4.result.1 i b) (lane_bit c.column_sums-5.result.1 i b) (lane_bit c.column_sums-6.result.1 i b) (lane_bit c.column_sums-7.result.1 i b) (lane_bit c.column_sums-8.result.1 i b)
    (bit_at-lt _ b) (bit_at-lt _ b) (bit_at-lt _ b) (bit_at-lt _ b) (bit_at-lt _ b) (bit_at-lt _ b) (bit_at-lt _ b) (bit_at-lt _ b) (bit_at-lt _ b) (bit_at-lt _ b) (bit_at-lt _ b) (bit_at-lt _ b) (bit_at-lt _ b) (bit_at-lt _ b) (bit_at-lt _ b)
    ∙ ap₂ bit_xor (ap (product 2) pair) (others ∙ ap (bit_xor (plane_byte v b (turned i 1))) last)

pub returns : goal.returns
unfolding block_at
returns c b low =
    let v = c.args.v in
    let at : ℕ → ℕ =
    λ i. mixed_byte (plane_byte v b i) (plane_byte v b (turned i 1)) (plane_byte v b (turned i 2)) (plane_byte v b (turned i 3)) in
    sixteen _ (λ i. at (lane_of i)) (λ i below. mixed c b (lane_of i) (omega arith))
    ∙ mixed_state (plane_byte v b) (plane_byte-lt v b)
