-- How reading goes on line by line.
use Rattle.std.proofs.Common.{◌≡◌, ℕ, ◌+◌, List, [], ◌∷◌, ◌++◌, Result, Ok, Err, true, false, refl, sym, ap, append_assoc, codes}
use Rattle.std.specs.List.{slice_split}
use Rattle.std.specs.Str.{bytes_eq}
use Rattle.eleos_trace.specs.declared.trace.Line.{Line}
use Rattle.eleos_trace.specs.declared.seen.Seen.{Seen}
use Rattle.eleos_texts.specs.declared.why.Why.{Why}
use Rattle.eleos_texts.specs.declared.why.Why.TheVariants.{Cut}
use Rattle.eleos_texts.specs.declared.why.Bad.{Bad}
use Rattle.eleos_texts.specs.Fields.{is_blank, is_newline}
use Rattle.eleos_texts.specs.Reasons.{◌>>=◌}
use Rattle.eleos_trace.specs.Seen.{seen_after}
use Rattle.eleos_trace.specs.Lines.{line_of}
use Rattle.eleos_trace.specs.declared.header.Header.{Header}
use Rattle.eleos_trace.specs.Reading.{commands_of}
use Rattle.eleos_texts.proofs.Texts.{split_cases}

-- these commands, and then the others where there are any; and what stands behind them
abbrev pub with_front : List Line → Result (List Line × List (List ℕ)) Bad → Result (List Line × List (List ℕ)) Bad
with_front front lines = lines >>= λ others. Ok (front ++ others.0, others.1)

-- these lines in front, and behind them one more, are in front together
pub with_front-push : (front : List Line) (line : Line) (lines : Result (List Line × List (List ℕ)) Bad) → with_front front (with_front (line ∷ []) lines) ≡ with_front (front ++ line ∷ []) lines
with_front-push front line (Ok (lines, after)) = ap (λ all. Ok (all, after)) (sym (append_assoc front (line ∷ []) lines))
with_front-push front line (Err bad) = refl

-- what the loop does at a line: text stands in it, and after behind it
module _ (header : Header) (line : ℕ) (seen : Seen) (text after : List ℕ) where
  -- the end
  pub commands_of-end : bytes_eq text (codes "end") ≡ true → commands_of header line seen (text ∷ slice_split is_newline after) ≡ Ok ([], slice_split is_newline after)
  unfolding commands_of
  commands_of-end end = split_cases (λ parts. commands_of header line seen (text ∷ parts) ≡ Ok ([], parts)) (λ part parts. rw end refl) after

  -- a command
  pub commands_of-more : (command : Line) → bytes_eq text (codes "end") ≡ false → line_of header seen (slice_split is_blank text) ≡ Ok command
      → commands_of header line seen (text ∷ slice_split is_newline after) ≡ with_front (command ∷ []) (commands_of header (line + 1) (seen_after seen command) (slice_split is_newline after))
  unfolding commands_of
  commands_of-more command go_on is =
      split_cases (λ parts. commands_of header line seen (text ∷ parts) ≡ with_front (command ∷ []) (commands_of header (line + 1) (seen_after seen command) parts)) (λ part parts. rw (go_on, is) refl) after

  -- a bad line
  pub commands_of-bad : (why : Why) → bytes_eq text (codes "end") ≡ false → line_of header seen (slice_split is_blank text) ≡ Err why
      → commands_of header line seen (text ∷ slice_split is_newline after) ≡ Err (record { line = line; why = why })
  unfolding commands_of
  commands_of-bad why go_on is =
      split_cases (λ parts. commands_of header line seen (text ∷ parts) ≡ Err (record { line = line; why = why })) (λ part parts. rw (go_on, is) refl) after

-- a last line that no newline ends
pub commands_of-cut : (header : Header) (line : ℕ) (seen : Seen) (text : List ℕ) → commands_of header line seen (text ∷ []) ≡ Err (record { line = line; why = Cut })
unfolding commands_of
commands_of-cut header line seen text = refl
