use Rattle.std.proofs.Common.{◌≡◌, bit_or, bit_xor, sym, ap, ◌∙◌, refl, arith}
use Rattle.std.proofs.lemmas.Bool.{eq-eqb, ne_eqb, false≢true}
use Rattle.std.specs.Simd.Lanes.{zip2, fold_l}
use Rattle.eleos_lanes.proofs.XorBytes.{none_differs, same_collects}
use Rattle.eleos_lanes.proofs.bytes.differs.Goals as goal

pub returns : goal.returns
returns c =
    let a = c.args.a.now in
    let b = c.args.b.now in
    let all = fold_l bit_or 0 (zip2 bit_xor a b) in (
      (λ is same.
          let none : all ≡ 0 = ap (λ y. fold_l bit_or 0 (zip2 bit_xor a y)) (sym same) ∙ same_collects a in
          absurd (false≢true (rw (eq-eqb all 0 none) at is))),
      (λ differ.
          let some : all ≡ 0 → ⊥ = λ none. differ (none_differs a b 0 (omega arith) none).1 in
          rw (ne_eqb all 0 some) refl),
    )
