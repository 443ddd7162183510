-- What was read, byte by byte.
use Rattle.std.proofs.Common.{◌≡◌, ℕ, zero, suc, ◌+◌, ◌-◌, ◌<◌, ◌≤◌, List, [], ◌∷◌, ◌++◌, length, take, drop, get_or, Some, None, Result, Ok, Err, Bool, true, false, refl, sym, ◌∙◌, ap, append_assoc, append-nil, length-append, arith, nat_le}
use Rattle.std.specs.Prelude.{OnOk}
use Rattle.std.proofs.lemmas.Bool.Decides.{nat_tests}
use Rattle.eleos_texts.specs.declared.why.Why.{Why}
use Rattle.eleos_texts.specs.declared.why.Why.TheVariants.{TooLarge}
use Rattle.eleos_texts.specs.declared.why.TraceRefused.{TraceRefused}
use Rattle.eleos_texts.specs.declared.why.TraceRefused.TheVariants as refused
use Rattle.eleos_texts.specs.Texts.{most_text}
use Rattle.eleos_kvwire.specs.declared.reader.Reader.{Reader}
use Rattle.eleos_kvwire.specs.Reading.{bad, text_of, refusal_in, refusal_past, first_refusal}
use Rattle.eleos_kvwire.specs.Feeding.{HasRead, Holds, Judges, text_with}
use Rattle.eleos_kvwire.specs.Steps.{GoesOn, Reaches}
use Rattle.std.proofs.lemmas.List.{take_more, take-append-drop}

-- the test finds a number to be at most another where it is
pub is_le : (a b : ℕ) → a ≤ b → nat_le a b ≡ true
is_le a b le = grind (arith, nat_tests)

not_le : (a b : ℕ) → b < a → nat_le a b ≡ false
not_le a b lt = grind (arith, nat_tests)

-- the first items of a list, where they end just behind a front
take_front : {A : Type 0} (most : ℕ) (front rest : List A) → length front ≡ most → take most (front ++ rest) ≡ front
take_front zero [] rest is = refl
take_front (suc most) [] rest is = absurd (omega arith)
take_front zero (x ∷ front) rest is = absurd (omega arith)
take_front (suc most) (x ∷ front) rest is = ap (λ xs. x ∷ xs) (take_front most front rest (omega arith))

-- the first items of a list, where they end somewhere behind a front and one more
take_past : {A : Type 0} (most : ℕ) (front : List A) (x : A) (rest : List A) → length front < most → take most (front ++ x ∷ rest) ≡ front ++ x ∷ take (most - length front - 1) rest
take_past zero front x rest less = absurd (omega arith)
take_past (suc most) [] x rest less = let same : most ≡ suc most - 0 - 1 = omega arith in rw (← same) refl
take_past (suc most) (y ∷ front) x rest less =
    let same : most - length front - 1 ≡ suc most - suc (length front) - 1 = omega arith in
    rw (← same) (ap (λ xs. y ∷ xs) (take_past most front x rest (omega arith)))

-- a text whose bytes are not too many
first_refusal-within : (bytes : List ℕ) → nat_le (length bytes) most_text ≡ true → first_refusal bytes ≡ refusal_in (text_of bytes)
unfolding first_refusal
first_refusal-within bytes within = rw within refl

first_refusal-past : (bytes : List ℕ) → nat_le (length bytes) most_text ≡ false → first_refusal bytes ≡ Some (refusal_past (text_of (take most_text bytes)))
unfolding first_refusal
first_refusal-past bytes past = rw past refl

module _ (bytes : List ℕ) (old : Reader) (has : HasRead bytes old) where
  -- what was read is a whole session or the front of one
  pub nothing_refused : refusal_in (text_of bytes) ≡ None
  nothing_refused = rw (← append-nil bytes) (rw (has.knows []) has.not_bad)

  pub not_refused : length bytes ≤ 16777216 → first_refusal bytes ≡ None
  not_refused within = first_refusal-within bytes (is_le _ _ within) ∙ nothing_refused

  module _ (byte : ℕ) where
    one_more : (rest : List ℕ) → (bytes ++ byte ∷ []) ++ rest ≡ bytes ++ byte ∷ rest
    one_more rest = append_assoc bytes (byte ∷ []) rest

    -- one byte too many
    pub too_many : old.bytes ≡ 16777216 → Holds (refused.Bad 0 TooLarge) (bytes ++ byte ∷ [])
    too_many full rest =
        let count : length bytes ≡ most_text = sym has.count ∙ full in
        let past : most_text < length (bytes ++ byte ∷ rest) = omega (arith, length-append bytes (byte ∷ rest)) in
        rw (one_more rest) (first_refusal-past (bytes ++ byte ∷ rest) (not_le _ _ past) ∙ rw (take_front most_text bytes (byte ∷ rest) count, nothing_refused) refl)

    -- a byte that makes the text bad
    pub one_bad : (line : ℕ) (why : Why) → old.bytes < 16777216 → ((rest : List ℕ) → text_with old (byte ∷ rest) ≡ bad line why) → Holds (refused.Bad line why) (bytes ++ byte ∷ [])
    one_bad line why room is rest = rw (one_more rest) (by (nat_le (length (bytes ++ byte ∷ rest)) most_text) refl) where
      less : length bytes < most_text
      less = let count : old.bytes ≡ length bytes = has.count in omega arith

      by : (b : Bool) → nat_le (length (bytes ++ byte ∷ rest)) most_text ≡ b → first_refusal (bytes ++ byte ∷ rest) ≡ Some (record { line = line; why = why })
      by true within = first_refusal-within (bytes ++ byte ∷ rest) within ∙ rw (has.knows (byte ∷ rest), is rest) refl
      by false past = first_refusal-past (bytes ++ byte ∷ rest) past
          ∙ rw (take_past most_text bytes byte rest less, has.knows (byte ∷ take (most_text - length bytes - 1) rest), is (take (most_text - length bytes - 1) rest)) refl

    -- where a byte leads, by what is answered for it
    pub reaches : (result : Result (Unit {0}) TraceRefused) (new : Reader) → old.bytes < 16777216 → new.bytes ≡ old.bytes + 1
        → ((rest : List ℕ) → GoesOn result (text_with old (byte ∷ rest)) (text_with new rest)) → OnOk result (refusal_in (text_with new []) ≡ None)
        → Reaches result (bytes ++ byte ∷ []) new
    reaches (Ok x) new room count goes_on good =
        let was : old.bytes ≡ length bytes = has.count in
        record {
          count = rw (length-append bytes (byte ∷ [])) (omega arith);
          not_bad = good;
          knows = λ rest. rw (one_more rest) (has.knows (byte ∷ rest) ∙ goes_on rest);
        }
    reaches (Err refused.NoMemory) new room count goes_on good = tt
    reaches (Err (refused.Bad line why)) new room count goes_on good = one_bad line why room goes_on

-- a refusal stands, whatever comes behind
pub holds_on : (e : TraceRefused) (bytes more : List ℕ) → Holds e bytes → Holds e (bytes ++ more)
holds_on refused.NoMemory bytes more holds = tt
holds_on (refused.Bad line why) bytes more holds = λ rest. rw (append_assoc bytes more rest) (holds (more ++ rest))

-- what a refusal that holds says of the bytes alone
pub held_refusal : (line : ℕ) (why : Why) (bytes : List ℕ) → Holds (refused.Bad line why) bytes → first_refusal bytes ≡ Some (record { line = line; why = why })
held_refusal line why bytes holds = ap first_refusal (sym (append-nil bytes)) ∙ holds []

-- the bytes of a piece so far, and the next one
pub next_of : (bytes piece : List ℕ) (i : ℕ) → i < length piece → (bytes ++ take i piece) ++ get_or piece i 0 ∷ [] ≡ bytes ++ take (i + 1) piece
next_of bytes piece i within = append_assoc bytes (take i piece) (get_or piece i 0 ∷ []) ∙ ap (λ front. bytes ++ front) (sym (take_more piece i 0 within))

-- the bytes of a piece so far, and the others
pub others_of : (bytes piece : List ℕ) (i : ℕ) → (bytes ++ take i piece) ++ drop i piece ≡ bytes ++ piece
others_of bytes piece i = append_assoc bytes (take i piece) (drop i piece) ∙ ap (λ all. bytes ++ all) (take-append-drop i piece)

-- what is answered for a text whose bytes were read, not too many of them
pub judged : {A : Type 0} (result : Result A TraceRefused) (bytes : List ℕ) (new : Reader) → new.bytes ≤ 16777216 → Reaches result bytes new → Judges result (first_refusal bytes)
judged (Ok x) bytes new few reached = let count : new.bytes ≡ length bytes = reached.count in let within : length bytes ≤ 16777216 = omega arith in not_refused bytes new reached within
judged (Err refused.NoMemory) bytes new few reached = tt
judged (Err (refused.Bad line why)) bytes new few reached = held_refusal line why bytes reached
