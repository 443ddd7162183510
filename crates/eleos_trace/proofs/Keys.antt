-- Keys as a set of texts.
use Rattle.std.proofs.Common.{◌≡◌, ℕ, List, [], ◌∷◌, Bool, true, false, refl, sym, ◌∙◌, ap, map, ◌||◌}
use Rattle.std.specs.List.{list_any}
use Rattle.std.specs.Ordering.{nat_cmp, eq_by_cmp}
use Rattle.std.specs.Cmp.Lexicographic.{slice_cmp}
use Rattle.std.specs.declared.cmp.Ordering.{Ordering}
use Rattle.std.specs.FinSet as set
use Rattle.std.specs.BTreeSet.{insert_key}
use Rattle.std.specs.BTreeMap.{is_at}
use Rattle.std.specs.declared.cmp.Ordering.TheVariants.{Less, Equal, Greater}
use Rattle.std.specs.Cmp.Lexicographic.{nat_list_cmp_total}
use Rattle.std.specs.Ordering.{match_ordering}

abbrev Texts : Type 0
Texts = set.FinSet (slice_cmp nat_cmp)

any_map : {X : Type 0} (f : X → List ℕ) (p : List ℕ → Bool) (ks : List X) → list_any p (map f ks) ≡ list_any (λ k. p (f k)) ks
any_map f p [] = refl
any_map f p (k ∷ ks) = ap (λ b. p (f k) || b) (any_map f p ks)

-- the set of the keys has what the tree finds
pub contains-keys : {X : Type 0} (f : X → List ℕ) (ks : List X) (q : List ℕ)
    → list_any (is_at (λ k. slice_cmp nat_cmp q (f k))) ks ≡ set.contains (set.from_list {R = slice_cmp nat_cmp} (map f ks)) q
contains-keys f ks q = sym (set.contains-from_list nat_list_cmp_total (map f ks) q ∙ any_map f (eq_by_cmp (slice_cmp nat_cmp) q) ks)

again : (a b : Bool) → (a || b) ≡ (a || (a || b))
again true b = refl
again false b = refl

swapped : (a b c : Bool) → (a || (b || c)) ≡ (b || (a || c))
swapped true true c = refl
swapped true false c = refl
swapped false b c = refl

same_texts : set.IsAntisymmetric (slice_cmp nat_cmp)
same_texts = set.slice_cmp-IsAntisymmetric set.nat_cmp-IsAntisymmetric

-- one more key passes a test, or an old one does
any_insert : {X : Type 0} (f : X → List ℕ) (p : List ℕ → Bool) (ks : List X) (k : X)
    → list_any (λ x. p (f x)) (insert_key (λ x y. slice_cmp nat_cmp (f x) (f y)) ks k) ≡ (p (f k) || list_any (λ x. p (f x)) ks)
any_insert f p [] k = refl
any_insert f p (x ∷ xs) k = by (slice_cmp nat_cmp (f k) (f x)) (λ tie. same_texts (f k) (f x) tie) (any_insert f p xs k) where
  by : (o : Ordering) → (o ≡ Equal → f k ≡ f x) → list_any (λ y. p (f y)) (insert_key (λ a b. slice_cmp nat_cmp (f a) (f b)) xs k) ≡ (p (f k) || list_any (λ y. p (f y)) xs)
      → list_any (λ y. p (f y)) (match_ordering o (k ∷ x ∷ xs) (x ∷ xs) (x ∷ insert_key (λ a b. slice_cmp nat_cmp (f a) (f b)) xs k)) ≡ (p (f k) || (p (f x) || list_any (λ y. p (f y)) xs))
  by Less same rest = refl
  by Equal same rest = rw (same refl) (again (p (f x)) (list_any (λ y. p (f y)) xs))
  by Greater same rest = rw rest (swapped (p (f x)) (p (f k)) (list_any (λ y. p (f y)) xs))

-- the set with one more key
pub insert-keys : {X : Type 0} (f : X → List ℕ) (ks : List X) (k : X)
    → set.from_list {R = slice_cmp nat_cmp} (map f (insert_key (λ x y. slice_cmp nat_cmp (f x) (f y)) ks k)) ≡ set.insert (set.from_list (map f ks)) (f k)
insert-keys f ks k = set.same_set nat_list_cmp_total same_texts _ _ (λ q.
    let p : List ℕ → Bool = eq_by_cmp (slice_cmp nat_cmp) q in
    let new = insert_key (λ x y. slice_cmp nat_cmp (f x) (f y)) ks k in
    set.contains-from_list nat_list_cmp_total (map f new) q ∙ any_map f p new ∙ any_insert f p ks k
    ∙ sym (set.contains-insert nat_list_cmp_total (set.from_list (map f ks)) (f k) q ∙ ap (λ b. p (f k) || b) (set.contains-from_list nat_list_cmp_total (map f ks) q ∙ any_map f p ks)))
