use Rattle.std.proofs.Common.{◌≡◌, ◌<◌, bit_xor, length, take, drop, ap, ap₂, sym, ◌∙◌, arith, length-take}
use Rattle.std.proofs.lemmas.List.{drop-drop, get_or-take, take-take}
use Rattle.std.proofs.lemmas.Simd.{Each1-from_get_or}
use Rattle.std.specs.Simd.Lanes.{zip2}
use Rattle.eleos_base.specs.BlockField.{number_of, power, product}
use Rattle.eleos_base.specs.Ghash.{blocks}
use Rattle.eleos_lanes.proofs.PowerLemmas.{absorbed}
use Rattle.eleos_lanes.proofs.Values.{number-xor}
use Rattle.eleos_lanes.proofs.powers.Powers.absorb_four.Goals as goal

pub returns-clause-hash : goal.returns-clause-hash
unfolding blocks
returns-clause-hash c =
    let h = c.args.self.now in
    let bytes = c.args.bytes.now in
    let sum = c.args.sum in
    let first = take 16 bytes in
    let long : length first ≡ 16 = omega (arith, length-take 16 bytes) in
    let fits = Each1-from_get_or (λ b. b < 256) first 0 (λ i low. omega (arith, get_or-take 16 bytes i 0 (omega arith), c.fits-bytes i)) in
    let two : drop 32 bytes ≡ drop 16 (drop 16 bytes) = sym (drop-drop 16 16 bytes) in
    let three : drop 48 bytes ≡ drop 16 (drop 16 (drop 16 bytes)) = sym (drop-drop 16 32 bytes) ∙ ap (drop 16) two in
    let a : number_of (zip2 bit_xor (take 16 (take 64 bytes)) c.lanes.result) ≡ bit_xor sum (number_of first) =
    ap₂ (λ xs ys. number_of (zip2 bit_xor xs ys)) (take-take 16 64 bytes (omega arith)) c.lanes.ensures
    ∙ number-xor first sum long fits (omega arith) in
    let b : number_of (take 16 (take 48 (drop 16 bytes))) ≡ number_of (take 16 (drop 16 bytes)) =
    ap number_of (take-take 16 48 (drop 16 bytes) (omega arith)) in
    let x : number_of (take 16 (take 32 (drop 32 bytes))) ≡ number_of (take 16 (drop 16 (drop 16 bytes))) =
    ap number_of (take-take 16 32 (drop 32 bytes) (omega arith) ∙ ap (take 16) two) in
    let d : number_of (take 16 (take 16 (drop 48 bytes))) ≡ number_of (take 16 (drop 16 (drop 16 (drop 16 bytes)))) =
    ap number_of (take-take 16 16 (drop 48 bytes) (omega arith) ∙ ap (take 16) three) in
    c.products.ensures.sum
    ∙ ap₂ bit_xor
    (ap₂ bit_xor (ap (λ n. product n (power h 4)) a) (ap (λ n. product n (power h 3)) b))
    (ap₂ bit_xor (ap (λ n. product n (power h 2)) x) (ap (λ n. product n (power h 1)) d))
    ∙ absorbed h sum 0 (number_of first) (number_of (take 16 (drop 16 bytes))) (number_of (take 16 (drop 16 (drop 16 bytes))))
    (number_of (take 16 (drop 16 (drop 16 (drop 16 bytes)))))
