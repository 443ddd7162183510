-- What is read is a log, spelled as it is printed, but that digits of hex may be capitals.
use Rattle.std.proofs.Common.{◌≡◌, ℕ, ◌+◌, List, [], ◌∷◌, ◌++◌, length, map, Err, Bool, true, false, nat_le, refl, sym, ap, ◌∙◌, append_assoc, codes}
use Rattle.std.specs.Prelude.{IfOk}
use Rattle.std.specs.List.{slice_split, join_with_byte, list_any, position_or_len, before_first, after_first}
use Rattle.std.specs.Fmt.{decimal}
use Rattle.std.proofs.lemmas.List.{map-append}
use Rattle.std.proofs.lemmas.List.Splits.{join_with_byte-slice_split}
use Rattle.eleos_texts.specs.declared.why.Why.TheVariants.{TooLarge}
use Rattle.eleos_trace.specs.declared.trace.Kind.{Kind}
use Rattle.eleos_texts.specs.Fields.{is, is_blank, is_newline}
use Rattle.eleos_texts.specs.Reasons.{at_line, one, one_and_more}
use Rattle.eleos_texts.specs.Texts.{ended, most_text}
use Rattle.eleos_trace.specs.Spelling.{fields, actor_text}
use Rattle.eleos_report.specs.declared.line.LogLine.{LogLine}
use Rattle.eleos_report.specs.Fields.{most_u64, number_of, optional_of, who_of}
use Rattle.eleos_report.specs.Commands.{command_in}
use Rattle.eleos_report.specs.Answers.{answer_in}
use Rattle.eleos_report.specs.Laws.{ReadsOnlyLogs}
use Rattle.eleos_report.specs.Log.{answer_fields, is_last, line_fields, log_text, stamp_text}
use Rattle.eleos_report.specs.Reading.{is_equals, parted, said_of, end_of, line_of, lines_of, log_of}
use Rattle.eleos_report.proofs.Plain.{take-next, drop-next}
use Rattle.eleos_report.proofs.ReadFields.{step, tested, either}
use Rattle.eleos_report.proofs.ReadLines.{numbered, log_is}
use Rattle.eleos_report.proofs.SpelledHex.{lower}
use Rattle.eleos_report.proofs.SpelledFields.{when, weaker, equal, verb_is, one_is, one_and_more_are, long_spelled, stamp_spelled, who_spelled, lower-join}
use Rattle.eleos_report.proofs.SpelledCommands.{lowers, both, command_spelled}
use Rattle.eleos_report.proofs.SpelledAnswers.{answer_spelled}

-- the words are those before the first `=`, it, and those behind it
abbrev AreParts : List (List ℕ) → List (List ℕ) × List (List ℕ) → Type 0
AreParts words parts = words ≡ parts.0 ++ codes "=" ∷ parts.1

parted_words : (words : List (List ℕ)) → list_any is_equals words ≡ true → AreParts words (before_first is_equals words, after_first is_equals words)
parted_words [] h = absurd cc
parted_words (word ∷ words) h = by (is_equals word) refl (parted_words words) where
  by : (b : Bool) → is_equals word ≡ b → (list_any is_equals words ≡ true → AreParts words (before_first is_equals words, after_first is_equals words))
      → AreParts (word ∷ words) (before_first is_equals (word ∷ words), after_first is_equals (word ∷ words))
  by true e rest = rw e (both word (codes "=") words words (equal word (codes "=") e) refl)
  by false e rest =
      let more = rw e at h in
      rw (e, take-next (position_or_len is_equals words) word words, drop-next (position_or_len is_equals words) word words) (ap (λ ws. word ∷ ws) (rest more))

parted_is : (words : List (List ℕ)) → IfOk (parted words) (AreParts words)
parted_is words = tested (AreParts words) (list_any is_equals words) (before_first is_equals words, after_first is_equals words) (parted_words words)

said_spelled : (kind : Kind) (stamp : List ℕ) (words : List (List ℕ)) → IfOk (said_of kind stamp words) (λ line. lower stamp ∷ lowers words ≡ line_fields line)
said_spelled kind stamp words =
    let P : LogLine → Type 0 = λ line. lower stamp ∷ lowers words ≡ line_fields line in
    step (λ o. lower stamp ≡ stamp_text o) P (optional_of most_u64 stamp) _ (stamp_spelled stamp) (λ place place_same.
    step (λ x. words ≡ x.0 ∷ x.1) P (one_and_more words) _ (one_and_more_are words) (λ actor actor_are.
    step (λ who. lower actor.0 ≡ actor_text who) P (who_of actor.0) _ (who_spelled actor.0) (λ who who_same.
    step (AreParts actor.1) P (parted actor.1) _ (parted_is actor.1) (λ parts are.
    step (λ command. lowers parts.0 ≡ fields command) P (command_in kind who parts.0) _ (command_spelled kind who parts.0) (λ command command_same.
    step (λ reply. lowers parts.1 ≡ answer_fields reply) P (answer_in kind parts.1) _ (answer_spelled kind parts.1) (λ reply reply_same.
    ap (λ ws. lower stamp ∷ lowers ws) (actor_are ∙ ap (λ ws. actor.0 ∷ ws) are) ∙ (rw (place_same, who_same, map-append lower parts.0 (codes "=" ∷ parts.1), command_same, reply_same) refl)))))))

end_spelled : (words : List (List ℕ)) → IfOk (end_of words) (λ line. codes "end" ∷ lowers words ≡ line_fields line)
end_spelled words =
    let P : LogLine → Type 0 = λ line. codes "end" ∷ lowers words ≡ line_fields line in
    step (λ a. words ≡ a ∷ []) P (one words) _ (one_is words) (λ a are.
    step (λ n. lower a ≡ decimal n) P (number_of most_u64 a) _ (long_spelled a) (λ count same. ap (λ ws. codes "end" ∷ lowers ws) are ∙ (rw same refl)))

line_spelled : (kind : Kind) (words : List (List ℕ)) → IfOk (line_of kind words) (λ line. lowers words ≡ line_fields line)
line_spelled kind words =
    let P : LogLine → Type 0 = λ line. lowers words ≡ line_fields line in
    step (λ x. words ≡ x.0 ∷ x.1) P (one_and_more words) _ (one_and_more_are words) (λ x are.
    when P (is (codes "end") x.0) (end_of x.1) (said_of kind x.0 x.1)
    (λ h. weaker (λ line. codes "end" ∷ lowers x.1 ≡ line_fields line) P (end_of x.1) (end_spelled x.1) (λ line same. ap lowers are ∙ both (lower x.0) (codes "end") (lowers x.1) (lowers x.1) (verb_is (codes "end") x.0 refl h) refl ∙ same))
    (weaker (λ line. lower x.0 ∷ lowers x.1 ≡ line_fields line) P (said_of kind x.0 x.1) (said_spelled kind x.0 x.1) (λ line same. ap lowers are ∙ same)))

-- a line without its newline
abbrev printed : LogLine → List ℕ
printed line = join_with_byte 32 (line_fields line)

text_spelled : (text : List ℕ) (line : LogLine) → lowers (slice_split is_blank text) ≡ line_fields line → lower text ≡ printed line
text_spelled text line same = ap lower (sym (join_with_byte-slice_split 32 text)) ∙ lower-join 32 (slice_split is_blank text) refl ∙ ap (join_with_byte 32) same

ended_is : (number : ℕ) (texts : List (List ℕ)) → IfOk (ended number texts) (λ _. texts ≡ [] ∷ [])
ended_is number [] = tt
ended_is number ([] ∷ []) = refl
ended_is number ([] ∷ text ∷ texts) = tt
ended_is number ((c ∷ cs) ∷ texts) = tt

lines_spelled : (kind : Kind) (number : ℕ) (texts : List (List ℕ)) → IfOk (lines_of kind number texts) (λ lines. lowers texts ≡ map printed lines ++ [] ∷ [])
unfolding lines_of
lines_spelled kind number [] = tt
lines_spelled kind number (text ∷ []) = tt
lines_spelled kind number (text ∷ next ∷ texts) =
    let P : List LogLine → Type 0 = λ lines. lowers (text ∷ next ∷ texts) ≡ map printed lines ++ [] ∷ [] in
    let Q : LogLine → Type 0 = λ line. lowers (slice_split is_blank text) ≡ line_fields line in
    step Q P (at_line number (line_of kind (slice_split is_blank text))) _ (numbered Q number (line_of kind (slice_split is_blank text)) (line_spelled kind (slice_split is_blank text))) (λ line same.
    either P (is_last line) _ _
    (step (λ _. next ∷ texts ≡ [] ∷ []) P (ended (number + 1) (next ∷ texts)) _ (ended_is (number + 1) (next ∷ texts)) (λ _ none. both (lower text) (printed line) (lowers (next ∷ texts)) ([] ∷ []) (text_spelled text line same) (ap lowers none)))
    (step (λ lines. lowers (next ∷ texts) ≡ map printed lines ++ [] ∷ []) P (lines_of kind (number + 1) (next ∷ texts)) _ (lines_spelled kind (number + 1) (next ∷ texts)) (λ lines all.
    both (lower text) (printed line) (lowers (next ∷ texts)) (map printed lines ++ [] ∷ []) (text_spelled text line same) all)))

join-more : (text : List ℕ) (texts : List (List ℕ)) → join_with_byte 10 (text ∷ (texts ++ [] ∷ [])) ≡ text ++ 10 ∷ join_with_byte 10 (texts ++ [] ∷ [])
join-more text [] = refl
join-more text (next ∷ texts) = refl

join_lines : (lines : List LogLine) → join_with_byte 10 (map printed lines ++ [] ∷ []) ≡ log_text lines
join_lines [] = refl
join_lines (line ∷ lines) = join-more (printed line) (map printed lines) ∙ ap (λ rest. printed line ++ 10 ∷ rest) (join_lines lines) ∙ sym (append_assoc (printed line) (10 ∷ []) (log_text lines))

log_spelled : (kind : Kind) (first : ℕ) (text : List ℕ) → IfOk (log_of kind first text) (λ lines. lower text ≡ log_text lines)
unfolding log_of
log_spelled kind first text = either (λ lines. lower text ≡ log_text lines) (nat_le (length text) most_text) (lines_of kind first (slice_split is_newline text)) (Err (record { line = 0; why = TooLarge }))
    (weaker (λ lines. lowers (slice_split is_newline text) ≡ map printed lines ++ [] ∷ []) (λ lines. lower text ≡ log_text lines) (lines_of kind first (slice_split is_newline text)) (lines_spelled kind first (slice_split is_newline text)) (λ lines same.
    ap lower (sym (join_with_byte-slice_split 10 text)) ∙ lower-join 10 (slice_split is_newline text) refl ∙ ap (join_with_byte 10) same ∙ join_lines lines)) tt

-- what is read is a log, and is spelled as it is printed, but that digits of hex may be capitals
pub only_logs : ReadsOnlyLogs
only_logs kind first text lines e =
    let is = log_is kind first text in
    let same = log_spelled kind first text in (rw e at is, rw e at same)
