-- Keys that agree at both ends.
use Rattle.std.proofs.Common.{◌≡◌, ℕ, ◌+◌, ◌-◌, ◌≤◌, List, ◌++◌, length, take, drop, inl, inr, Bool, true, false, not, refl, sym, ap, ◌∙◌, arith, length-drop}
use Rattle.std.specs.Str.{bytes_eq}
use Rattle.eleos_base.specs.AesKey.{IsKeyLength}
use Rattle.std.proofs.lemmas.Bool.Decides.{nat_tests}
use Rattle.std.proofs.lemmas.Slice.Eq.{bytes_eq-Decides}
use Rattle.std.proofs.lemmas.List.{take-append-drop, drop-drop, take_all}

-- a key has 16 to 32 bytes
pub key_sizes : (n : ℕ) → IsKeyLength n → (16 ≤ n) × (n ≤ 32)
key_sizes n (inl is) = (omega arith, omega arith)
key_sizes n (inr (inl is)) = (omega arith, omega arith)
key_sizes n (inr (inr is)) = (omega arith, omega arith)

-- lists of 16 to 32 items are the same where their first 16 and their last 16 are
pub same_by_ends : (a b : List ℕ) → length b ≡ length a → 16 ≤ length a → length a ≤ 32 → take 16 (drop 0 a) ≡ take 16 (drop 0 b) → take 16 (drop (length a - 16) a) ≡ take 16 (drop (length a - 16) b) → a ≡ b
same_by_ends a b same long short front end =
    let n : ℕ = length a - 16 in
    let all_a : take 16 (drop n a) ≡ drop n a = take_all 16 (drop n a) (omega (arith, length-drop n a)) in
    let all_b : take 16 (drop n b) ≡ drop n b = take_all 16 (drop n b) (omega (arith, length-drop n b, same)) in
    let ends : drop n a ≡ drop n b = sym all_a ∙ end ∙ all_b in
    let sixteen : n + (32 - length a) ≡ 16 = omega arith in
    let rest_a : drop (32 - length a) (drop n a) ≡ drop 16 a = drop-drop (32 - length a) n a ∙ ap (λ k. drop k a) sixteen in
    let rest_b : drop (32 - length a) (drop n b) ≡ drop 16 b = drop-drop (32 - length a) n b ∙ ap (λ k. drop k b) sixteen in
    let rest : drop 16 a ≡ drop 16 b = sym rest_a ∙ ap (drop (32 - length a)) ends ∙ rest_b in
    sym (take-append-drop 16 a) ∙ ap (λ f. f ++ drop 16 a) front ∙ ap (λ r. take 16 b ++ r) rest ∙ take-append-drop 16 b

-- lists that are not other than each other are the same
stable : (xs ys : List ℕ) → ((xs ≡ ys → ⊥) → ⊥) → xs ≡ ys
stable xs ys not_other = by (bytes_eq xs ys) (bytes_eq-Decides xs ys) where
  by : (b : Bool) → (b ≡ true → xs ≡ ys) × (xs ≡ ys → b ≡ true) → xs ≡ ys
  by true decides = decides.0 refl
  by false decides = absurd (not_other (λ same. no (decides.1 same))) where
    no : false ≡ true → ⊥
    no e = cc

-- a test for other lists that does not hold
same_where_not : (xs ys : List ℕ) (other : Bool) → ((xs ≡ ys → ⊥) → other ≡ true) → other ≡ false → xs ≡ ys
same_where_not xs ys other tells none = stable xs ys (λ differ. clash (tells differ)) where
  clash : other ≡ true → ⊥
  clash some = cc

-- and that has to hold where they are other
not_other : (xs ys : List ℕ) (other : Bool) → (other ≡ true → (xs ≡ ys → ⊥)) → xs ≡ ys → not other ≡ true
not_other xs ys true tells same = absurd (tells refl same)
not_other xs ys false tells same = refl

-- whether keys are the same, by the tests of their first 16 and their last 16 bytes; the first does not tell them apart
pub same_by_tests : (a b p q front_a front_b end_a end_b : List ℕ) (fronts ends : Bool) (at : ℕ) → a ≡ p → b ≡ q → length b ≡ length a → 16 ≤ length a → length a ≤ 32 → at ≡ length a - 16
    → front_a ≡ take 16 (drop 0 a) → front_b ≡ take 16 (drop 0 b) → end_a ≡ take 16 (drop at a) → end_b ≡ take 16 (drop at b)
    → (fronts ≡ true → (front_a ≡ front_b → ⊥)) × ((front_a ≡ front_b → ⊥) → fronts ≡ true) → (ends ≡ true → (end_a ≡ end_b → ⊥)) × ((end_a ≡ end_b → ⊥) → ends ≡ true) → fronts ≡ false
    → (not ends ≡ true → p ≡ q) × (p ≡ q → not ends ≡ true)
same_by_tests a b p q front_a front_b end_a end_b fronts ends at is_a is_b same long short is_at is_front_a is_front_b is_end_a is_end_b front end no_front = (all, none) where
  all : not ends ≡ true → p ≡ q
  all no_end =
      let off : ends ≡ false = grind (arith, nat_tests) in
      let fronts_same = same_where_not front_a front_b fronts front.1 no_front in
      let ends_same = same_where_not end_a end_b ends end.1 off in
      let ends_at : take 16 (drop (length a - 16) a) ≡ take 16 (drop (length a - 16) b) = rw (← is_at) (sym is_end_a ∙ ends_same ∙ is_end_b) in
      sym is_a ∙ same_by_ends a b same long short (sym is_front_a ∙ fronts_same ∙ is_front_b) ends_at ∙ is_b

  none : p ≡ q → not ends ≡ true
  none one = let lists : a ≡ b = is_a ∙ one ∙ sym is_b in not_other end_a end_b ends end.0 (is_end_a ∙ ap (λ list. take 16 (drop at list)) lists ∙ sym is_end_b)
