-- Where the words of a line are parted.
use Rattle.std.proofs.Common.{◌≡◌, ℕ, ◌+◌, List, [], ◌∷◌, Bool, true, false, Some, None, Ok, Err, map, length, take, drop, cond, not, nat_lt, refl, ap, arith}
use Rattle.std.specs.List.{position, position_or_len, list_any}
use Rattle.std.proofs.lemmas.Bool.Decides.{nat_tests}
use Rattle.std.proofs.lemmas.List.{length-map}
use Rattle.eleos_texts.specs.declared.why.Why.TheVariants.{Form}
use Rattle.eleos_report.specs.Reading.{is_equals, parted}

module _ {A B : Type 0} (f : A → B) (p : B → Bool) where
  position_or_len-map : (xs : List A) → position_or_len p (map f xs) ≡ position_or_len (λ x. p (f x)) xs
  position_or_len-map [] = refl
  position_or_len-map (x ∷ xs) = ap (λ n. cond (not (p (f x))) (1 + n) 0) (position_or_len-map xs)

  -- the place of the first that passes does not change
  pub position-map : (xs : List A) → position p (map f xs) ≡ position (λ x. p (f x)) xs
  position-map xs = rw (position_or_len-map xs, length-map) refl

-- one passes where there is a first that does
list_any-position : {A : Type 0} (p : A → Bool) (xs : List A) → list_any p xs ≡ nat_lt (position_or_len p xs) (length xs)
list_any-position p [] = refl
list_any-position p (x ∷ xs) = grind (arith, nat_tests, list_any-position p xs)

none_passes : (a b : ℕ) → cond (nat_lt a b) (Some a) None ≡ None → nat_lt a b ≡ false
none_passes a b none = grind (arith, nat_tests)

some_passes : (a b i : ℕ) → cond (nat_lt a b) (Some a) None ≡ Some i → nat_lt a b ≡ true
some_passes a b i found = grind (arith, nat_tests)

some_is : (a b i : ℕ) → cond (nat_lt a b) (Some a) None ≡ Some i → a ≡ i
some_is a b i found = grind (arith, nat_tests)

-- words without `=` are of no form
pub parted-none : (words : List (List ℕ)) → position is_equals words ≡ None → parted words ≡ Err Form
parted-none words none = rw (list_any-position is_equals words, none_passes _ _ none) refl

-- the words before the first `=`, and those behind it
pub parted-some : (words : List (List ℕ)) (at : ℕ) → position is_equals words ≡ Some at → parted words ≡ Ok (take at words, drop (at + 1) words)
parted-some words at found = rw (list_any-position is_equals words, some_passes _ _ at found, some_is _ (length words) at found) refl
