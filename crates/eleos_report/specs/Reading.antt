-- The meaning of a text: the lines of a log, or its first bad line with the reason.
use Rattle.std.specs.Prelude.{ℕ, ◌+◌, List, [], ◌∷◌, length, nat_le, Bool, Result, Ok, Err, codes, if◌then◌else◌}
use Rattle.std.specs.List.{slice_split, list_any, before_first, after_first}
use Rattle.eleos_texts.specs.declared.why.Why.{Why}
use Rattle.eleos_texts.specs.declared.why.Why.TheVariants.{TooLarge, Cut}
use Rattle.eleos_texts.specs.declared.why.Bad.{Bad}
use Rattle.eleos_texts.specs.Fields.{is, is_blank, is_newline}
use Rattle.eleos_texts.specs.Reasons.{at_line, one_and_more, with_one, with_one_and_more, ◌>>=◌}
use Rattle.eleos_texts.specs.Texts.{ended, most_text}
use Rattle.eleos_trace.specs.declared.trace.Kind.{Kind}
use Rattle.eleos_report.specs.declared.line.LogLine.{LogLine}
use Rattle.eleos_report.specs.declared.line.LogLine.TheVariants.{Said, End}
use Rattle.eleos_report.specs.Fields.{formed, most_u64, number_of, optional_of, who_of}
use Rattle.eleos_report.specs.Commands.{command_in}
use Rattle.eleos_report.specs.Answers.{answer_in}
use Rattle.eleos_report.specs.Log.{is_last}

-- what stands between a command and its reply
abbrev pub is_equals : List ℕ → Bool
is_equals word = is (codes "=") word

-- the words before the first `=`, and those behind it
abbrev pub parted : List (List ℕ) → Result (List (List ℕ) × List (List ℕ)) Why
parted words = formed (list_any is_equals words) (before_first is_equals words, after_first is_equals words)

-- `STAMP ACTOR TEXT = REPLY`
abbrev pub said_of : Kind → List ℕ → List (List ℕ) → Result LogLine Why
said_of kind stamp words = do
  stamp ← optional_of most_u64 stamp
  actor ← one_and_more words
  who ← who_of actor.0
  parts ← parted actor.1
  command ← command_in kind who parts.0
  reply ← answer_in kind parts.1
  Ok (Said stamp who command reply)

-- `end N`
abbrev pub end_of : List (List ℕ) → Result LogLine Why
end_of = with_one (λ n. number_of most_u64 n >>= λ count. Ok (End count))

-- a line by its words
abbrev pub line_of : Kind → List (List ℕ) → Result LogLine Why
line_of kind = with_one_and_more (λ first more. if is (codes "end") first then end_of more else said_of kind first more)

-- the lines of a log from the line of this number on, where nothing stands behind the last
unfoldable pub lines_of : Kind → ℕ → List (List ℕ) → Result (List LogLine) Bad
lines_of kind line [] = Err (record { line = line; why = Cut })
lines_of kind line (text ∷ []) = Err (record { line = line; why = Cut })
lines_of kind line (text ∷ next ∷ texts) = do
  first ← at_line line (line_of kind (slice_split is_blank text))
  if is_last first then (ended (line + 1) (next ∷ texts) >>= λ _. Ok (first ∷ [])) else (do
    lines ← lines_of kind (line + 1) (next ∷ texts)
    Ok (first ∷ lines))

-- the lines of a log of this kind, the first of which has this number
unfoldable pub log_of : Kind → ℕ → List ℕ → Result (List LogLine) Bad
log_of kind first text = if nat_le (length text) most_text then lines_of kind first (slice_split is_newline text) else Err (record { line = 0; why = TooLarge })
