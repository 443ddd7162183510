-- Lists by place, and what holds of each item.
use Rattle.std.proofs.Common.{◌≡◌, ◌≢◌, ℕ, zero, suc, ◌+◌, ◌<◌, List, [], ◌∷◌, length, slice_index_or, slice_set, refl, sym, ◌∙◌, ap, arith, add-zero}
use Rattle.std.specs.List.{AllByRecursion}
use Rattle.eleos_base.specs.Lists.{map_from}

-- a list by place has as many items
pub length-map_from : {A B : Type 0} (f : ℕ → A → B) (s : ℕ) (xs : List A) → length (map_from f s xs) ≡ length xs
length-map_from f s [] = refl
length-map_from f s (x ∷ xs) = ap suc (length-map_from f (s + 1) xs)

-- and each by its place
pub get_or-map_from : {A B : Type 0} (f : ℕ → A → B) (s : ℕ) (xs : List A) (i : ℕ) (d : A) (e : B) → i < length xs → slice_index_or (map_from f s xs) i e ≡ f (s + i) (slice_index_or xs i d)
get_or-map_from f s [] i d e inside = absurd (omega arith)
get_or-map_from f s (x ∷ xs) zero d e inside = ap (λ n. f n x) (sym (add-zero s))
get_or-map_from f s (x ∷ xs) (suc i) d e inside = get_or-map_from f (s + 1) xs i d e (omega arith) ∙ ap (λ n. f n (slice_index_or xs i d)) (omega arith)

-- two such lists are equal where each item is
pub map_from-same : {A B : Type 0} (f g : ℕ → A → B) (s : ℕ) (xs : List A) (d : A) → ((j : ℕ) → j < length xs → f (s + j) (slice_index_or xs j d) ≡ g (s + j) (slice_index_or xs j d)) → map_from f s xs ≡ map_from g s xs
map_from-same f g s [] d same = refl
map_from-same f g s (x ∷ xs) d same =
    let here : f s x ≡ g s x = ap (λ n. f n x) (sym (add-zero s)) ∙ (same 0 (omega arith) ∙ ap (λ n. g n x) (add-zero s)) in
    let rest = map_from-same f g (s + 1) xs d (λ j h. let on : s + 1 + j ≡ s + suc j = omega arith in rw on (same (suc j) (omega arith))) in
    λ t. here t ∷ rest t

-- a list by place of which one item is set
pub map_from-set_one : {A B : Type 0} (f g : ℕ → A → B) (s i : ℕ) (xs : List A) (d : A) (y : B) → ((j : ℕ) → j < length xs → j ≢ i → f (s + j) (slice_index_or xs j d) ≡ g (s + j) (slice_index_or xs j d))
    → (i < length xs → y ≡ g (s + i) (slice_index_or xs i d)) → slice_set (map_from f s xs) i y ≡ map_from g s xs
map_from-set_one f g s i [] d y others here = refl
map_from-set_one f g s zero (x ∷ xs) d y others here =
    let first : y ≡ g s x = here (omega arith) ∙ ap (λ n. g n x) (add-zero s) in
    let rest = map_from-same f g (s + 1) xs d (λ j h. let on : s + 1 + j ≡ s + suc j = omega arith in rw on (others (suc j) (omega arith) (omega arith))) in
    λ t. first t ∷ rest t
map_from-set_one f g s (suc i) (x ∷ xs) d y others here =
    let first : f s x ≡ g s x = ap (λ n. f n x) (sym (add-zero s)) ∙ (others 0 (omega arith) (omega arith) ∙ ap (λ n. g n x) (add-zero s)) in
    let at : s + 1 + i ≡ s + suc i = omega arith in
    let rest = map_from-set_one f g (s + 1) i xs d y (λ j h differ. let on : s + 1 + j ≡ s + suc j = omega arith in rw on (others (suc j) (omega arith) (omega arith))) (λ h. rw at (here (omega arith))) in
    λ t. first t ∷ rest t

-- and one of which one item is set before
pub map_from-set : {A B : Type 0} (f g : ℕ → A → B) (s i : ℕ) (xs : List A) (x : A) → ((j : ℕ) (z : A) → j ≢ s + i → g j z ≡ f j z) → map_from g s (slice_set xs i x) ≡ slice_set (map_from f s xs) i (g (s + i) x)
map_from-set f g s i [] x others = refl
map_from-set f g s zero (z ∷ xs) x others =
    let first : g s x ≡ g (s + 0) x = ap (λ n. g n x) (sym (add-zero s)) in
    let rest = map_from-same g f (s + 1) xs x (λ j h. others (s + 1 + j) (slice_index_or xs j x) (λ is. omega arith)) in
    λ t. first t ∷ rest t
map_from-set f g s (suc i) (z ∷ xs) x others =
    let first : g s z ≡ f s z = others s z (λ is. omega arith) in
    let on : s + 1 + i ≡ s + suc i = omega arith in
    let rest = map_from-set f g (s + 1) i xs x (λ j w differ. others j w (λ is. differ (omega arith))) in
    λ t. first t ∷ (rw on at rest) t

-- what holds of each item
pub all_set : {A : Type 0} (P : A → Type 0) (xs : List A) (i : ℕ) (x : A) → AllByRecursion P xs → P x → AllByRecursion P (slice_set xs i x)
all_set P [] i x all holds = tt
all_set P (y ∷ xs) zero x all holds = (holds, all.1)
all_set P (y ∷ xs) (suc i) x all holds = (all.0, all_set P xs i x all.1 holds)

-- what holds of all holds of the one in a place
pub all_at : {A : Type 0} (P : A → Type 0) (xs : List A) (i : ℕ) (d : A) → AllByRecursion P xs → i < length xs → P (slice_index_or xs i d)
all_at P [] i d all inside = absurd (omega arith)
all_at P (x ∷ xs) zero d all inside = all.0
all_at P (x ∷ xs) (suc i) d all inside = all_at P xs i d all.1 (omega arith)

-- what holds of each by what held of it
pub all_map : {A : Type 0} (P Q : A → Type 0) (xs : List A) → ((x : A) → P x → Q x) → AllByRecursion P xs → AllByRecursion Q xs
all_map P Q [] on all = tt
all_map P Q (x ∷ xs) on all = (on x all.0, all_map P Q xs on all.1)
