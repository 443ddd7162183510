-- What stands behind the end of a text, by its bytes.
use Rattle.std.proofs.Common.{◌≡◌, ℕ, List, [], ◌∷◌, length, Ok, Err, Bool, true, false, refl, cond, eqb, arith}
use Rattle.std.proofs.lemmas.Bool.Decides.{nat_tests}
use Rattle.std.specs.List.{slice_split, onto_first}
use Rattle.eleos_texts.specs.declared.why.Why.TheVariants.{After}
use Rattle.eleos_texts.specs.Fields.{is_newline}
use Rattle.eleos_texts.specs.Texts.{ended}
use Rattle.eleos_texts.proofs.Texts.{split_cases}

-- something behind the end
ended-more : (line c : ℕ) (cs : List ℕ) → ended line (slice_split is_newline (c ∷ cs)) ≡ Err (record { line = line; why = After })
ended-more line c cs = by (is_newline c) where
  by : (b : Bool) → ended line (cond b ([] ∷ slice_split is_newline cs) (onto_first c (slice_split is_newline cs))) ≡ Err (record { line = line; why = After })
  by true = split_cases (λ parts. ended line ([] ∷ parts) ≡ Err (record { line = line; why = After })) (λ part parts. refl) cs
  by false = split_cases (λ parts. ended line (onto_first c parts) ≡ Err (record { line = line; why = After })) (λ part parts. refl) cs

-- what is behind the end, by its bytes
pub ended-empty_text : (line : ℕ) (after : List ℕ) → eqb (length after) 0 ≡ true → ended line (slice_split is_newline after) ≡ Ok tt
ended-empty_text line [] empty = refl
ended-empty_text line (c ∷ cs) empty = absurd (grind (arith, nat_tests))

-- any byte behind the end is refused, at the line where it stands
pub ended-more_text : (line : ℕ) (after : List ℕ) → eqb (length after) 0 ≡ false → ended line (slice_split is_newline after) ≡ Err (record { line = line; why = After })
ended-more_text line [] more = cc
ended-more_text line (c ∷ cs) more = ended-more line c cs
