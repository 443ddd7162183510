-- What the loop over lines knows at each line.
use Rattle.std.proofs.Common.{◌≡◌, ℕ, ◌+◌, List, [], ◌∷◌, ◌++◌, Result, Ok, Err, false, true, sym, ◌∙◌}
use Rattle.std.specs.List.{slice_split}
use Rattle.eleos_texts.specs.declared.why.Why.{Why}
use Rattle.eleos_texts.specs.declared.why.Why.TheVariants.{Cut}
use Rattle.eleos_texts.specs.declared.why.Bad.{Bad}
use Rattle.eleos_texts.specs.declared.why.TraceRefused.{TraceRefused}
use Rattle.eleos_texts.specs.declared.why.TraceRefused.TheVariants as refused
use Rattle.eleos_texts.specs.declared.why.LineRefused.{LineRefused}
use Rattle.eleos_texts.specs.declared.why.LineRefused.TheVariants as line_refused
use Rattle.eleos_texts.specs.Fields.{is_blank, is_newline}
use Rattle.eleos_texts.specs.Reasons.{Fails, Reads, answer_at}
use Rattle.eleos_texts.specs.Texts.{ended}
use Rattle.eleos_trace.specs.declared.trace.Kind.{Kind}
use Rattle.eleos_report.specs.declared.line.LogLine.{LogLine}
use Rattle.eleos_report.specs.Log.{is_last}
use Rattle.eleos_report.specs.Reading.{line_of, lines_of}
use Rattle.eleos_report.proofs.Steps.{with_front, with_front-push, lines_of-last, lines_of-more, lines_of-bad, lines_of-cut}

-- the line of a reader, by its answer with the line's number
pub read_ok : (number : ℕ) (answer : Result LogLine LineRefused) (read : Result LogLine Why) (line : LogLine) → answer_at number answer ≡ Ok line → Reads (λ x. x) answer read → read ≡ Ok line
read_ok number (Ok other) read line is given = given ∙ same is where
  same : ◌≡◌ {A = Result LogLine TraceRefused} (Ok other) (Ok line) → ◌≡◌ {A = Result LogLine Why} (Ok other) (Ok line)
  same e = cc
read_ok number (Err line_refused.NoMemory) read line is given = absurd cc
read_ok number (Err (line_refused.Bad why)) read line is given = absurd cc

-- front has the lines so far, and whole those of the text
module _ (kind : Kind) (number : ℕ) (front : List LogLine) (rest : List ℕ) (whole : Result (List LogLine) Bad) (so_far : with_front front (lines_of kind number (slice_split is_newline rest)) ≡ whole) where
  -- no newline ends the line
  pub at_cut : slice_split is_newline rest ≡ rest ∷ [] → whole ≡ Err (record { line = number; why = Cut })
  at_cut parts = sym (rw (parts, lines_of-cut kind number rest) at so_far)

  module _ (text after : List ℕ) (parts : slice_split is_newline rest ≡ text ∷ slice_split is_newline after) where
    -- the last line, and nothing behind it
    pub at_end : (line : LogLine) → is_last line ≡ true → line_of kind (slice_split is_blank text) ≡ Ok line → ended (number + 1) (slice_split is_newline after) ≡ Ok tt → whole ≡ Ok (front ++ line ∷ [])
    at_end line last is none = sym (rw (parts, lines_of-last kind number text after line last is, none) at so_far)

    -- the last line, and something behind it
    pub at_more : (e : TraceRefused) (line : LogLine) → is_last line ≡ true → line_of kind (slice_split is_blank text) ≡ Ok line → Fails e (ended (number + 1) (slice_split is_newline after)) → Fails e whole
    at_more refused.NoMemory line last is more = tt
    at_more (refused.Bad bad why) line last is more = sym (rw (parts, lines_of-last kind number text after line last is, more) at so_far)

    -- a bad line
    pub at_bad : (e : TraceRefused) (answer : Result LogLine LineRefused) → Reads (λ x. x) answer (line_of kind (slice_split is_blank text)) → answer_at number answer ≡ Err e → Fails e whole
    at_bad refused.NoMemory answer given is = tt
    at_bad (refused.Bad bad why) (Ok x) given is = absurd cc
    at_bad (refused.Bad bad why) (Err line_refused.NoMemory) given is = absurd cc
    at_bad (refused.Bad bad why) (Err (line_refused.Bad other)) given is =
        let found = rw (parts, lines_of-bad kind number text after other given) at so_far in
        sym found ∙ same where
          same : ◌≡◌ {A = Result (List LogLine) Bad} (Err (record { line = number; why = other })) (Err (record { line = bad; why = why }))
          same = cc

    -- a line before the last
    pub at_line : (line : LogLine) → is_last line ≡ false → line_of kind (slice_split is_blank text) ≡ Ok line
        → with_front (front ++ line ∷ []) (lines_of kind (number + 1) (slice_split is_newline after)) ≡ whole
    at_line line more is = sym (with_front-push front line _) ∙ (rw (parts, lines_of-more kind number text after line more is) at so_far)
