-- What a loop over lines of one kind knows at each line.
use Rattle.std.proofs.Common.{◌≡◌, ℕ, ◌+◌, List, [], ◌∷◌, ◌++◌, Result, Ok, Err, Bool, true, false, cond, refl, sym}
use Rattle.eleos_texts.specs.declared.why.Why.{Why}
use Rattle.eleos_texts.specs.declared.why.Bad.{Bad}
use Rattle.eleos_texts.specs.declared.why.TraceRefused.{TraceRefused}
use Rattle.eleos_texts.specs.declared.why.LineRefused.{LineRefused}
use Rattle.eleos_texts.specs.Reasons.{at_line, ◌>>=◌, Fails, Reads, answer_at}
use Rattle.eleos_texts.proofs.Answers.{fails_first, read_bad}
use Rattle.eleos_trace.specs.WholeHeader.{next_words, items_of}

module _ {A : Type 0} (goes_on : List A → List (List ℕ) → Bool) (reader : List A → List (List ℕ) → Result A Why) (line : ℕ) (before : List A) where
  -- an item behind its line's words, or the end
  abbrev items_by : List (List ℕ) → List (List ℕ) → List (List ℕ) → Result (List A × List (List ℕ)) Bad
  items_by texts words after = cond (goes_on before words) (at_line line (reader before words) >>= λ x. items_of goes_on reader (line + 1) (before ++ x ∷ []) after) (Ok (before, texts))

  items_of-next : (texts : List (List ℕ)) → items_of goes_on reader line before texts ≡ (next_words line texts >>= λ words. items_by texts words.0 words.1)
  unfolding items_of
  items_of-next [] = refl
  items_of-next (text ∷ []) = refl
  items_of-next (text ∷ next ∷ texts) = refl

  module _ (texts : List (List ℕ)) (whole : Result (List A × List (List ℕ)) Bad) (so_far : items_of goes_on reader line before texts ≡ whole) where
    -- no newline ends the line
    pub at_cut : (e : TraceRefused) → Fails e (next_words line texts) → Fails e whole
    at_cut e fails = rw (← so_far, items_of-next texts) (fails_first e (next_words line texts) (λ words. items_by texts words.0 words.1) fails)

    module _ (words after : List (List ℕ)) (parts : next_words line texts ≡ Ok (words, after)) where
      -- what is left to read, by the words of the line
      by_words : items_by texts words after ≡ whole
      by_words = rw (items_of-next texts, parts) at so_far

      -- the line is of another kind
      pub at_stop : goes_on before words ≡ false → whole ≡ Ok (before, texts)
      at_stop stops = sym (rw stops at by_words)

      -- the line is refused
      pub at_bad : {B : Type 0} (view : B → A) (e : TraceRefused) (answer : Result B LineRefused) → goes_on before words ≡ true → Reads view answer (reader before words) → answer_at line answer ≡ Err e → Fails e whole
      at_bad view e answer goes given is =
          let found = rw goes at by_words in
          rw (← found) (fails_first e (at_line line (reader before words)) (λ x. items_of goes_on reader (line + 1) (before ++ x ∷ []) after) (read_bad view line answer (reader before words) e is given))

      -- the line has one more item
      pub at_item : (x : A) → goes_on before words ≡ true → reader before words ≡ Ok x → items_of goes_on reader (line + 1) (before ++ x ∷ []) after ≡ whole
      at_item x goes is = rw (goes, is) at by_words
