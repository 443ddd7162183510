use Rattle.std.proofs.Common.{◌≡◌, ◌/◌, ◌%◌, ◌^◌, ◌<◌, [], ◌∷◌, ap, ap₂, subst, ◌∙◌, arith, w64}
use Rattle.std.proofs.lemmas.Nat.{and_mask}
use Rattle.std.specs.Int.{swap_bytes}
use Rattle.std.specs.Simd.Lanes.{number_l, digits_l}
use Rattle.eleos_lanes.proofs.Swaps.{halves_swapped}
use Rattle.eleos_lanes.proofs.field.lanes.Goals as goal

pub returns : goal.returns
returns c =
    let n = c.args.number in
    let high : c.swap_bytes.result ≡ swap_bytes w64 (n / 2 ^ 64) = c.swap_bytes.ensures in
    let low : c.swap_bytes-2.result ≡ swap_bytes w64 (n % 2 ^ 64) = c.swap_bytes-2.ensures ∙ ap (swap_bytes w64) (and_mask n 64) in
    let high_fits = subst (λ x. x < 2 ^ 64) high c.swap_bytes.type_inv in
    let low_fits = subst (λ x. x < 2 ^ 64) low c.swap_bytes-2.type_inv in
    ap₂ (λ a b. digits_l 256 16 (number_l (2 ^ 64) (a ∷ b ∷ []))) high low ∙ halves_swapped n (omega arith) (high_fits, (low_fits, tt))
