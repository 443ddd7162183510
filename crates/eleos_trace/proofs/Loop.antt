-- What the loop over commands knows at each line.
use Rattle.std.proofs.Common.{◌≡◌, ℕ, ◌+◌, ◌≤◌, List, [], ◌∷◌, ◌++◌, Result, Ok, Err, Bool, false, true, cond, sym, ◌∙◌, ap, append-nil, arith, codes}
use Rattle.std.specs.List.{slice_split}
use Rattle.std.specs.Str.{bytes_eq}
use Rattle.eleos_trace.specs.declared.trace.Line.{Line}
use Rattle.eleos_trace.specs.declared.seen.Seen.{Seen}
use Rattle.eleos_texts.specs.declared.why.Why.TheVariants.{Cut}
use Rattle.eleos_texts.specs.declared.why.Bad.{Bad}
use Rattle.eleos_texts.specs.declared.why.TraceRefused.{TraceRefused}
use Rattle.eleos_texts.specs.declared.why.TraceRefused.TheVariants as refused
use Rattle.eleos_texts.specs.declared.why.LineRefused.{LineRefused}
use Rattle.eleos_texts.specs.declared.why.LineRefused.TheVariants as line_refused
use Rattle.eleos_texts.specs.Fields.{is_blank, is_newline}
use Rattle.eleos_texts.specs.Reasons.{Fails, Reads, answer_at}
use Rattle.eleos_trace.specs.declared.word.Word.{Word}
use Rattle.eleos_trace.specs.Seen.{is_round, rounds_after, seen_after}
use Rattle.eleos_trace.specs.Lines.{line_of}
use Rattle.eleos_trace.specs.declared.header.Header.{Header}
use Rattle.eleos_trace.specs.Reading.{commands_of}
use Rattle.eleos_trace.proofs.Steps.{with_front, with_front-push, commands_of-end, commands_of-more, commands_of-bad, commands_of-cut}

-- a command is at most one round more
pub one_round : (rounds : ℕ) (word : Word) → rounds_after rounds word ≤ rounds + 1
one_round rounds word = by (is_round word) where
  by : (b : Bool) → cond b (rounds + 1) rounds ≤ rounds + 1
  by true = omega arith
  by false = omega arith

-- front has the commands so far, and whole those of all lines
module _ (header : Header) (line : ℕ) (seen : Seen) (front : List Line) (rest : List ℕ) (whole : Result (List Line × List (List ℕ)) Bad) (so_far : with_front front (commands_of header line seen (slice_split is_newline rest)) ≡ whole) where
  -- no newline ends the line
  pub at_cut : slice_split is_newline rest ≡ rest ∷ [] → whole ≡ Err (record { line = line; why = Cut })
  at_cut parts = sym (rw (parts, commands_of-cut header line seen rest) at so_far)

  module _ (text after : List ℕ) (parts : slice_split is_newline rest ≡ text ∷ slice_split is_newline after) where
    -- the line is `end`: the commands so far are all, and the text behind it is what is left
    pub at_end : bytes_eq text (codes "end") ≡ true → whole ≡ Ok (front, slice_split is_newline after)
    at_end end =
        let last = rw (parts, commands_of-end header line seen text after end) at so_far in
        sym last ∙ ap (λ lines. Ok (lines, slice_split is_newline after)) (append-nil front)

    -- the line is refused: the whole is refused at this line for the same reason, unless memory ran out
    pub at_bad : (e : TraceRefused) (answer : Result Line LineRefused) → bytes_eq text (codes "end") ≡ false → Reads (λ x. x) answer (line_of header seen (slice_split is_blank text)) → answer_at line answer ≡ Err e → Fails e whole
    at_bad refused.NoMemory answer go_on given is = tt
    at_bad (refused.Bad bad why) (Ok x) go_on given is = absurd cc
    at_bad (refused.Bad bad why) (Err line_refused.NoMemory) go_on given is = absurd cc
    at_bad (refused.Bad bad why) (Err (line_refused.Bad other)) go_on given is =
        let found = rw (parts, commands_of-bad header line seen text after other go_on given) at so_far in
        sym found ∙ same where
          same : ◌≡◌ {A = Result (List Line × List (List ℕ)) Bad} (Err (record { line = line; why = other })) (Err (record { line = bad; why = why }))
          same = cc

    -- the line is a command: it comes behind those so far, and the lines behind it are read next
    pub at_command : (command : Line) → bytes_eq text (codes "end") ≡ false → line_of header seen (slice_split is_blank text) ≡ Ok command
        → with_front (front ++ command ∷ []) (commands_of header (line + 1) (seen_after seen command) (slice_split is_newline after)) ≡ whole
    at_command command go_on is = sym (with_front-push front command _) ∙ (rw (parts, commands_of-more header line seen text after command go_on is) at so_far)
