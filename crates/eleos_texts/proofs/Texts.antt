-- Parts of a text.
use Rattle.std.proofs.Common.{get_or, Option, refl, sym, ◌≡◌, ℕ, ◌+◌, ◌<◌, ◌≤◌, List, [], ◌∷◌, Some, None, true, false, Bool, length, take, drop, arith, nat_lt, cond}
use Rattle.std.specs.List.{slice_split, position, position_or_len, onto_first}
use Rattle.eleos_texts.specs.Fields.{is_newline}
use Rattle.std.proofs.lemmas.Bool.Decides.{nat_tests}
use Rattle.std.proofs.lemmas.List.Sums.{fails_before_first, position_or_len_is}
use Rattle.memchr.specs.Find.{IsFirstByte}
use Rattle.std.proofs.lemmas.List.Splits.{slice_split_first, slice_split_none}

none_le : (a b : ℕ) → cond (nat_lt a b) (Some a) None ≡ None → b ≤ a
none_le a b none = grind (arith, nat_tests)

some_lt : (a b i : ℕ) → cond (nat_lt a b) (Some a) None ≡ Some i → a < b
some_lt a b i found = grind (arith, nat_tests)

some_is : (a b i : ℕ) → cond (nat_lt a b) (Some a) None ≡ Some i → a ≡ i
some_is a b i found = grind (arith, nat_tests)

-- a text without the separator is one part
pub slice_split-whole : (p : ℕ → Bool) (text : List ℕ) → position p text ≡ None → slice_split p text ≡ text ∷ []
slice_split-whole p text none =
    let above : length text ≤ position_or_len p text = none_le _ _ none in
    slice_split_none p text (λ k d lt. fails_before_first p text k d (omega arith))

-- the first separator ends the first part
pub slice_split-first : (p : ℕ → Bool) (text : List ℕ) (end : ℕ) → position p text ≡ Some end → slice_split p text ≡ take end text ∷ slice_split p (drop (end + 1) text)
slice_split-first p text end found =
    let at : position_or_len p text ≡ end = some_is _ (length text) _ found in
    rw at at (slice_split_first p text 0 (some_lt _ _ _ found))

-- the parts of a text are at least one
pub split_cases : (P : List (List ℕ) → Type 0) → ((part : List ℕ) (parts : List (List ℕ)) → P (part ∷ parts)) → (text : List ℕ) → P (slice_split is_newline text)
split_cases P each [] = each [] []
split_cases P each (c ∷ cs) = by (is_newline c) (split_cases (λ parts. P (onto_first c parts)) (λ part parts. each (c ∷ part) parts) cs) where
  by : (b : Bool) → P (onto_first c (slice_split is_newline cs)) → P (cond b ([] ∷ slice_split is_newline cs) (onto_first c (slice_split is_newline cs)))
  by true rest = each [] (slice_split is_newline cs)
  by false rest = rest

not_true : (b : Bool) → (b ≡ true → ⊥) → b ≡ false
not_true true fails = absurd (fails refl)
not_true false fails = refl

at_place : (a n : ℕ) → a < n → nat_lt a n ≡ true
at_place a n lt = grind (arith, nat_tests)

at_end : (n : ℕ) → nat_lt n n ≡ false
at_end n = grind (arith, nat_tests)

-- the first byte that passes stands where it is looked for
pub position_is : (p : ℕ → Bool) (text : List ℕ) (found : Option ℕ) → IsFirstByte p text found → found ≡ position p text
position_is p text None none =
    let last : position_or_len p text ≡ length text = position_or_len_is p text (length text) 0 (omega arith) (λ k lt. not_true (p (get_or text k 0)) (none k (omega arith) lt)) (λ lt. absurd (omega (arith, lt))) in
    sym (rw (last, at_end (length text)) refl)
position_is p text (Some k) first =
    let within : k < length text = first.0.high in
    let at : position_or_len p text ≡ k = position_or_len_is p text k 0 (omega (arith, within)) (λ i lt. not_true (p (get_or text i 0)) (first.0.before i (omega arith) lt)) (λ lt. first.1) in
    sym (rw (at, at_place k (length text) within) refl)
