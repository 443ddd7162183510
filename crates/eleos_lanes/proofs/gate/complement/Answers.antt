use Rattle.std.proofs.Common.{ℕ, get_or, replicate, bit_xor, ap, ◌∙◌, arith}
use Rattle.std.proofs.lemmas.Simd.{get_or-zip2, get_or-replicate, length-replicate}
use Rattle.std.proofs.lemmas.Nat.Bits.{bit_at_ones}
use Rattle.std.specs.Int.{bit_at}
use Rattle.eleos_lanes.specs.Planes.{differ}
use Rattle.eleos_lanes.proofs.Bits.{bit_xor_at}
use Rattle.eleos_lanes.proofs.gate.complement.Goals as goal

pub returns : goal.returns
unfolding differ
returns c i j h low =
    let a = c.fits-a.0 in
    let ones = replicate {A = ℕ} 16 255 in
    ap (λ x. bit_at x j)
    (get_or-zip2 bit_xor c.args.a ones i 0 0 0 (omega arith) (omega (arith, length-replicate {A = ℕ} 16 255))
    ∙ ap (bit_xor (get_or c.args.a i 0)) (get_or-replicate {A = ℕ} 16 i 255 0 h))
    ∙ bit_xor_at (get_or c.args.a i 0) 255 j ∙ ap (bit_xor (bit_at (get_or c.args.a i 0) j)) (bit_at_ones 8 j low)
