use Rattle.std.proofs.Common.{get_or, bit_xor, ap, ◌∙◌, arith}
use Rattle.std.proofs.lemmas.Simd.{get_or-zip2}
use Rattle.std.specs.Int.{bit_at}
use Rattle.eleos_lanes.specs.Planes.{differ}
use Rattle.eleos_lanes.proofs.Bits.{bit_xor_at}
use Rattle.eleos_lanes.proofs.gate.xor.Goals as goal

pub returns : goal.returns
unfolding differ
returns c i j h =
    let a = c.fits-a.0 in
    let b = c.fits-b.0 in
    ap (λ x. bit_at x j) (get_or-zip2 bit_xor c.args.a c.args.b i 0 0 0 (omega arith) (omega arith))
    ∙ bit_xor_at (get_or c.args.a i 0) (get_or c.args.b i 0) j
