-- Lists that grow by one item or by a run of items.
use Rattle.std.proofs.Common.{◌≡◌, ℕ, zero, suc, ◌+◌, ◌<◌, List, [], ◌∷◌, ◌++◌, map, replicate, Result, Ok, Err, append_assoc, slice_index, refl, sym, ◌∙◌, ap, arith}
use Rattle.std.specs.List.{AllByRecursion, range_with_len}
use Rattle.std.specs.Result.{OnOk}
use Rattle.std.proofs.lemmas.List.{map-append}
use Rattle.std.proofs.lemmas.List.FromFn.{map-range_with_len_more}

-- what follows from what holds after an `Ok`
pub on_ok : {T E : Type 0} {P Q : Type 0} (r : Result T E) → (P → Q) → OnOk r P → OnOk r Q
on_ok (Ok x) f holds = f holds
on_ok (Err e) f holds = tt

-- a run of numbers with one more
pub range_more : (a n : ℕ) → range_with_len a (n + 1) ≡ range_with_len a n ++ (a + n) ∷ []
range_more a zero = ap (λ (i : ℕ). i ∷ []) (let e : a ≡ a + 0 = omega arith in e)
range_more a (suc n) =
    let count : suc n + 1 ≡ suc (n + 1) = omega arith in
    let last : a + 1 + n ≡ a + suc n = omega arith in
    ap (range_with_len a) count ∙ ap (λ ns. a ∷ ns) (range_more (a + 1) n ∙ ap (λ i. range_with_len (a + 1) n ++ i ∷ []) last)

-- two runs of numbers that give the same items
pub same_runs : {A : Type 0} (f g : ℕ → A) (a b n : ℕ) → ((i : ℕ) → i < n → f (a + i) ≡ g (b + i)) → map f (range_with_len a n) ≡ map g (range_with_len b n)
same_runs f g a b zero same = refl
same_runs f g a b (suc n) same =
    let left : a ≡ a + 0 = omega arith in
    let right : b + 0 ≡ b = omega arith in
    let here = ap f left ∙ (same 0 (omega arith) ∙ ap g right) in
    let rest = same_runs f g (a + 1) (b + 1) n (λ i lt. ap f (let e : a + 1 + i ≡ a + suc i = omega arith in e) ∙ (same (suc i) (omega arith) ∙ ap g (let e : b + suc i ≡ b + 1 + i = omega arith in e))) in
    λ t. here t ∷ rest t

-- a run of numbers and the run behind it
runs_append : {A : Type 0} (f : ℕ → A) (a n m : ℕ) → map f (range_with_len a n) ++ map f (range_with_len (a + n) m) ≡ map f (range_with_len a (n + m))
runs_append f a zero m = let left : a + 0 ≡ a = omega arith in let right : m ≡ 0 + m = omega arith in λ t. map f (range_with_len (left t) (right t))
runs_append f a (suc n) m =
    let first : a + suc n ≡ a + 1 + n = omega arith in
    let count : suc (n + m) ≡ suc n + m = omega arith in
    ap (λ b. f a ∷ map f (range_with_len (a + 1) n) ++ map f (range_with_len b m)) first ∙ (ap (λ ys. f a ∷ ys) (runs_append f (a + 1) n m) ∙ ap (λ k. map f (range_with_len a k)) count)

-- the same, where the run behind it is given by other numbers
pub map_runs : {A : Type 0} (f g : ℕ → A) (a b n m : ℕ) → ((i : ℕ) → i < m → g (b + i) ≡ f (a + n + i)) → map f (range_with_len a n) ++ map g (range_with_len b m) ≡ map f (range_with_len a (n + m))
map_runs f g a b n m same = ap (λ ys. map f (range_with_len a n) ++ ys) (same_runs g f b (a + n) m same) ∙ runs_append f a n m

-- one more item behind those that a run of numbers gives
pub pushed_run : {A : Type 0} (f : ℕ → A) (a n j : ℕ) (xs xs' : List A) (x : A) → a + n ≡ j → xs' ≡ xs ++ x ∷ [] → x ≡ f j → xs ≡ map f (range_with_len a n) → xs' ≡ map f (range_with_len a (n + 1))
pushed_run f a n j xs xs' x at add is so_far = add ∙ (ap (λ ys. ys ++ x ∷ []) so_far ∙ (ap (λ y. map f (range_with_len a n) ++ y ∷ []) is ∙ sym (map-range_with_len_more f a n j at)))

-- one more item behind old ones and new ones
pub grown : {A B : Type 0} (f : A → B) (xs xs' : List A) (x : A) (old ys ys' : List B) (y : B) → xs' ≡ xs ++ x ∷ [] → f x ≡ y → ys' ≡ ys ++ y ∷ [] → map f xs ≡ old ++ ys → map f xs' ≡ old ++ ys'
grown f xs xs' x old ys ys' y add is more so_far =
    ap (map f) add ∙ (map-append f xs (x ∷ []) ∙ (ap (λ zs. zs ++ f x ∷ []) so_far ∙ (append_assoc old ys (f x ∷ []) ∙ (ap (λ z. old ++ (ys ++ z ∷ [])) is ∙ ap (λ zs. old ++ zs) (sym more)))))

-- what holds of each item of a list and of one more
pub all_more : {A : Type 0} (P : A → Type 0) (xs : List A) (x : A) → AllByRecursion P xs → P x → AllByRecursion P (xs ++ x ∷ [])
all_more P [] x all here = (here, tt)
all_more P (y ∷ ys) x all here = (all.0, all_more P ys x all.1 here)

-- zeros alone
pub zero_at : (n i : ℕ) → slice_index (replicate n 0) i ≡ 0
zero_at zero i = refl
zero_at (suc n) zero = refl
zero_at (suc n) (suc i) = zero_at n i
