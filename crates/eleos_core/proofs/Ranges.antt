-- Lists made from a function of the place.
use Rattle.std.proofs.Common.{◌≡◌, ◌≢◌, ℕ, zero, suc, ◌+◌, ◌<◌, ◌≤◌, List, [], ◌∷◌, length, map, replicate, get_or, slice_set, refl, ◌∙◌, ap, arith}
use Rattle.std.specs.List.{range_with_len}
use Rattle.eleos_base.specs.Lists.{map_from}

-- two functions that agree on the range make one list
pub range-same : {A : Type 0} (f g : ℕ → A) (a n : ℕ) → ((i : ℕ) → a ≤ i → i < a + n → f i ≡ g i) → map f (range_with_len a n) ≡ map g (range_with_len a n)
range-same f g a zero same = refl
range-same f g a (suc n) same =
    let first = same a (omega arith) (omega arith) in
    let rest = range-same f g (a + 1) n (λ i low high. same i (omega arith) (omega arith)) in
    λ t. first t ∷ rest t

-- one item changed, and the others as they were
pub range-set : {A : Type 0} (f g : ℕ → A) (a n i b : ℕ) (v : A) → a + i ≡ b → v ≡ g b → ((j : ℕ) → a ≤ j → j < a + n → j ≢ b → f j ≡ g j)
    → slice_set (map f (range_with_len a n)) i v ≡ map g (range_with_len a n)
range-set f g a zero i b v at here others = refl
range-set f g a (suc n) zero b v at here others =
    let first = here ∙ ap g (let e : b ≡ a = omega arith in e) in
    let rest = range-same f g (a + 1) n (λ j low high. others j (omega arith) (omega arith) (λ e. omega arith)) in
    λ t. first t ∷ rest t
range-set f g a (suc n) (suc i) b v at here others =
    let first = others a (omega arith) (omega arith) (λ e. omega arith) in
    let rest = range-set f g (a + 1) n i b v (omega arith) here (λ j low high ne. others j (omega arith) (omega arith) ne) in
    λ t. first t ∷ rest t

-- each item with its place
pub range-from : {A B : Type 0} (h : ℕ → A → B) (f : ℕ → A) (a n : ℕ) → map_from h a (map f (range_with_len a n)) ≡ map (λ i. h i (f i)) (range_with_len a n)
range-from h f a zero = refl
range-from h f a (suc n) = ap (λ ys. h a (f a) ∷ ys) (range-from h f (a + 1) n)

-- a list by place, where what each place gives is known
pub from-range : {A B : Type 0} (h : ℕ → A → B) (g : ℕ → B) (a : ℕ) (xs : List A) (d : A) → ((i j : ℕ) → i < length xs → a + i ≡ j → h j (get_or xs i d) ≡ g j)
    → map_from h a xs ≡ map g (range_with_len a (length xs))
from-range h g a [] d same = refl
from-range h g a (x ∷ xs) d same =
    let first = same 0 a (omega arith) (omega arith) in
    let rest = from-range h g (a + 1) xs d (λ i j within at. same (suc i) j (omega arith) (omega arith)) in
    λ t. first t ∷ rest t

-- an item of a list by place
pub get_or-map_from : {A B : Type 0} (h : ℕ → A → B) (a i j : ℕ) (xs : List A) (d : A) (e : B) → i < length xs → a + i ≡ j → get_or (map_from h a xs) i e ≡ h j (get_or xs i d)
get_or-map_from h a i j [] d e within at = absurd (omega arith)
get_or-map_from h a zero j (x ∷ xs) d e within at = ap (λ p. h p x) (let same : a ≡ j = omega arith in same)
get_or-map_from h a (suc i) j (x ∷ xs) d e within at = get_or-map_from h (a + 1) i j xs d e (omega arith) (omega arith)

-- one item again and again
pub replicate-range : {A : Type 0} (z : A) (a n : ℕ) → replicate n z ≡ map (λ (i : ℕ). z) (range_with_len a n)
replicate-range z a zero = refl
replicate-range z a (suc n) = ap (λ ys. z ∷ ys) (replicate-range z (a + 1) n)
