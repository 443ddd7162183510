-- Lists of which a call changes one item or a run of items.
use Rattle.std.proofs.Common.{◌≡◌, ℕ, ◌+◌, ◌<◌, ◌≤◌, List, [], ◌∷◌, ◌++◌, length, refl, ◌∙◌, ap, arith, take, drop, get_or, slice_set, map, length-append, length-take, length-drop}
use Rattle.std.proofs.lemmas.List.{get_or_default, length-map}
use Rattle.std.proofs.lemmas.List.Edits.{map_over_more}
use Rattle.eleos_base.specs.Lists.{map_from}

-- where each item is kept
pub map_from-keeps : {A : Type 0} (f : ℕ → A → A) (i : ℕ) (xs : List A) → ((j : ℕ) (x : A) → i ≤ j → f j x ≡ x) → map_from f i xs ≡ xs
map_from-keeps f i [] keeps = refl
map_from-keeps f i (x ∷ xs) keeps = λ t. keeps i x (omega arith) t ∷ map_from-keeps f (i + 1) xs (λ j y le. keeps j y (omega arith)) t

-- one more item changed by its value
pub map_over_at : {A : Type 0} (f : A → A) (xs ys : List A) (i : ℕ) (d : A) → i < length xs → ys ≡ map f (take i xs) ++ drop i xs
    → slice_set ys i (f (get_or ys i d)) ≡ map f (take (i + 1) xs) ++ drop (i + 1) xs
map_over_at f xs ys i d within are =
    let same_length : length ys ≡ length xs = ap length are ∙ simp (length-append, length-map, length-take, length-drop) (omega arith) in
    map_over_more f xs ys i (get_or ys i d) within are (get_or_default ys i d (get_or ys i d) (omega arith))
