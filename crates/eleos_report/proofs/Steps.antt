-- How reading goes on line by line.
use Rattle.std.proofs.Common.{◌≡◌, ℕ, ◌+◌, List, [], ◌∷◌, ◌++◌, Result, Ok, Err, true, false, refl, sym, ap, append_assoc}
use Rattle.std.specs.List.{slice_split}
use Rattle.eleos_texts.specs.declared.why.Why.{Why}
use Rattle.eleos_texts.specs.declared.why.Why.TheVariants.{Cut}
use Rattle.eleos_texts.specs.declared.why.Bad.{Bad}
use Rattle.eleos_texts.specs.Fields.{is_blank, is_newline}
use Rattle.eleos_texts.specs.Reasons.{◌>>=◌}
use Rattle.eleos_texts.specs.Texts.{ended}
use Rattle.eleos_texts.proofs.Texts.{split_cases}
use Rattle.eleos_trace.specs.declared.trace.Kind.{Kind}
use Rattle.eleos_report.specs.declared.line.LogLine.{LogLine}
use Rattle.eleos_report.specs.Log.{is_last}
use Rattle.eleos_report.specs.Reading.{line_of, lines_of}

-- these lines, and then the others where there are any
abbrev pub with_front : List LogLine → Result (List LogLine) Bad → Result (List LogLine) Bad
with_front front lines = lines >>= λ others. Ok (front ++ others)

-- these lines in front, and behind them one more, are in front together
pub with_front-push : (front : List LogLine) (line : LogLine) (lines : Result (List LogLine) Bad) → with_front front (with_front (line ∷ []) lines) ≡ with_front (front ++ line ∷ []) lines
with_front-push front line (Ok lines) = ap Ok (sym (append_assoc front (line ∷ []) lines))
with_front-push front line (Err bad) = refl

-- what reading does at a line: text stands in it, and after behind it
module _ (kind : Kind) (number : ℕ) (text after : List ℕ) where
  -- the last line
  pub lines_of-last : (line : LogLine) → is_last line ≡ true → line_of kind (slice_split is_blank text) ≡ Ok line
      → lines_of kind number (text ∷ slice_split is_newline after) ≡ (ended (number + 1) (slice_split is_newline after) >>= λ _. Ok (line ∷ []))
  unfolding lines_of
  lines_of-last line last is =
      split_cases (λ parts. lines_of kind number (text ∷ parts) ≡ (ended (number + 1) parts >>= λ _. Ok (line ∷ []))) (λ part parts. rw (is, last) refl) after

  -- a line before the last
  pub lines_of-more : (line : LogLine) → is_last line ≡ false → line_of kind (slice_split is_blank text) ≡ Ok line
      → lines_of kind number (text ∷ slice_split is_newline after) ≡ with_front (line ∷ []) (lines_of kind (number + 1) (slice_split is_newline after))
  unfolding lines_of
  lines_of-more line more is =
      split_cases (λ parts. lines_of kind number (text ∷ parts) ≡ with_front (line ∷ []) (lines_of kind (number + 1) parts)) (λ part parts. rw (is, more) refl) after

  -- a bad line
  pub lines_of-bad : (why : Why) → line_of kind (slice_split is_blank text) ≡ Err why
      → lines_of kind number (text ∷ slice_split is_newline after) ≡ Err (record { line = number; why = why })
  unfolding lines_of
  lines_of-bad why is =
      split_cases (λ parts. lines_of kind number (text ∷ parts) ≡ Err (record { line = number; why = why })) (λ part parts. rw is refl) after

-- a line that no newline ends
pub lines_of-cut : (kind : Kind) (number : ℕ) (text : List ℕ) → lines_of kind number (text ∷ []) ≡ Err (record { line = number; why = Cut })
unfolding lines_of
lines_of-cut kind number text = refl
