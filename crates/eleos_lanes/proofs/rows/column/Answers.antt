use Rattle.std.proofs.Common.{◌≡◌, ℕ, [], ◌∷◌, get_or, refl}
use Rattle.eleos_lanes.proofs.Bits.{below_sixteen}
use Rattle.eleos_lanes.proofs.rows.column.Goals as goal

pub returns : goal.returns
returns c =
    let products = c.args.products.now in
    let j = c.args.j in
    let at : ℕ → ℕ = λ n. get_or (get_or products n []) j 0 in
    let all = at 0 ∷ at 1 ∷ at 2 ∷ at 3 ∷ at 4 ∷ at 5 ∷ at 6 ∷ at 7 ∷ at 8 ∷ at 9 ∷ at 10 ∷ at 11 ∷ at 12 ∷ at 13 ∷ at 14 ∷ at 15 ∷ [] in
    below_sixteen (λ n. get_or all n 0 ≡ at n) refl refl refl refl refl refl refl refl refl refl refl refl refl refl refl refl
