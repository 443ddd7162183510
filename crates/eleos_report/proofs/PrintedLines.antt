-- A log that is printed is read again.
use Rattle.std.proofs.Common.{◌≡◌, ℕ, ◌+◌, ◌≤◌, List, [], ◌∷◌, ◌++◌, Option, Some, Ok, true, nat_le, refl, ap, ◌∙◌, arith, codes, append_assoc}
use Rattle.std.specs.List.{slice_split, join_with_byte}
use Rattle.std.specs.Fmt.{decimal}
use Rattle.std.specs.Str.{IsAscii, IsUtf8}
use Rattle.std.proofs.lemmas.Str.{IsUtf8-from_ascii}
use Rattle.std.proofs.lemmas.Str.Ascii.{IsAscii-push}
use Rattle.std.proofs.lemmas.Bool.Decides.{nat_tests}
use Rattle.eleos_trace.specs.declared.word.Actor.{Actor}
use Rattle.eleos_trace.specs.declared.word.Word.{Word}
use Rattle.eleos_texts.specs.Fields.{is, is_blank, is_newline}
use Rattle.eleos_texts.specs.Reasons.{one, one_and_more}
use Rattle.eleos_trace.specs.Spelling.{fields, actor_text}
use Rattle.eleos_trace.specs.declared.trace.Kind.{Kind}
use Rattle.eleos_report.specs.declared.answer.Answer.{Answer}
use Rattle.eleos_report.specs.declared.line.LogLine.{LogLine}
use Rattle.eleos_report.specs.declared.line.LogLine.TheVariants.{Said, End}
use Rattle.eleos_report.specs.Grammar.{IsLong, IsLine, IsLog, Stands}
use Rattle.eleos_report.specs.Laws.{ReadsWhatIsPrinted}
use Rattle.eleos_report.specs.Log.{answer_fields, line_fields, line_text, log_text, stamp_text}
use Rattle.eleos_report.specs.Reading.{line_of, lines_of, log_of}
use Rattle.eleos_report.proofs.Plain.{IsDark, AreDark, dark_from_plain, dark_all, dark_both, plain_stamp, plain_actor, plain_fields, plain_answer, parted-again, slice_split-join, slice_split-line, ascii_join}
use Rattle.eleos_report.proofs.PrintedFields.{stamp_again, who_again, long_again, stamp_no_end}
use Rattle.eleos_report.proofs.PrintedCommands.{command_again}
use Rattle.eleos_report.proofs.PrintedAnswers.{answer_again}
use Rattle.eleos_report.proofs.Steps.{with_front, lines_of-last, lines_of-more}

-- the words of a line have no blank and no newline
pub record HasDarkWords (line : LogLine) : Type 0 where
  pub first : List ℕ
  pub more : List (List ℕ)
  pub words : line_fields line ≡ first ∷ more
  pub first_dark : IsDark first
  pub more_dark : AreDark more

dark_said : (kind : Kind) (stamp : Option ℕ) (actor : Actor) (command : Word) (reply : Answer) → Stands kind stamp actor command reply → HasDarkWords (Said stamp actor command reply)
dark_said kind stamp actor command reply is = record {
  first = stamp_text stamp;
  more = actor_text actor ∷ fields command ++ codes "=" ∷ answer_fields reply;
  words = refl;
  first_dark = dark_from_plain (stamp_text stamp) (plain_stamp stamp is.stamp_fits);
  more_dark = (
    dark_from_plain (actor_text actor) (plain_actor actor is.actor_is),
    dark_both (fields command) (codes "=" ∷ answer_fields reply) (dark_all (fields command) (plain_fields command is.command_has)) (refl, dark_all (answer_fields reply) (plain_answer reply is.reply_has)),
  );
}

dark_end : (count : ℕ) → IsLong count → HasDarkWords (End count)
dark_end count fits = record {
  first = codes "end";
  more = decimal count ∷ [];
  words = refl;
  first_dark = refl;
  more_dark = (dark_from_plain (decimal count) (plain_stamp (Some count) fits), tt);
}

-- the words of a printed line
words_again : (line : LogLine) → HasDarkWords line → slice_split is_blank (join_with_byte 32 (line_fields line)) ≡ line_fields line
words_again line dark = rw dark.words (slice_split-join dark.first dark.more dark.first_dark dark.more_dark)

-- a printed line at the front of a text
front_again : (line : LogLine) (rest : List ℕ) → HasDarkWords line → slice_split is_newline (line_text line ++ rest) ≡ join_with_byte 32 (line_fields line) ∷ slice_split is_newline rest
front_again line rest dark = rw (append_assoc (join_with_byte 32 (line_fields line)) (10 ∷ []) rest, dark.words) (slice_split-line dark.first dark.more rest dark.first_dark dark.more_dark)

-- a line before the last
said_again : (kind : Kind) (stamp : Option ℕ) (actor : Actor) (command : Word) (reply : Answer) → Stands kind stamp actor command reply
    → line_of kind (line_fields (Said stamp actor command reply)) ≡ Ok (Said stamp actor command reply)
unfolding one_and_more
said_again kind stamp actor command reply is =
    rw (
      stamp_no_end stamp is.stamp_fits,
      stamp_again stamp is.stamp_fits,
      who_again actor is.actor_is,
      parted-again (answer_fields reply) (fields command) (plain_fields command is.command_has),
      command_again kind actor command is.command_is is.command_has,
      answer_again kind reply is.reply_is is.reply_has,
    ) refl

-- the last line
end_again : (kind : Kind) (count : ℕ) → IsLong count → line_of kind (line_fields (End count)) ≡ Ok (End count)
unfolding one one_and_more
end_again kind count fits = rw (long_again count fits) refl

dark_line : (kind : Kind) (line : LogLine) → IsLine kind line → HasDarkWords line
dark_line kind (Said stamp actor command reply) is = dark_said kind stamp actor command reply is
dark_line kind (End count) is = dark_end count is

line_again : (kind : Kind) (line : LogLine) → IsLine kind line → line_of kind (slice_split is_blank (join_with_byte 32 (line_fields line))) ≡ Ok line
line_again kind (Said stamp actor command reply) is = rw (words_again (Said stamp actor command reply) (dark_said kind stamp actor command reply is)) (said_again kind stamp actor command reply is)
line_again kind (End count) is = rw (words_again (End count) (dark_end count is)) (end_again kind count is)

-- the lines of a printed log
lines_again : (kind : Kind) (number : ℕ) (lines : List LogLine) → IsLog kind lines → lines_of kind number (slice_split is_newline (log_text lines)) ≡ Ok lines
lines_again kind number [] is = absurd is
lines_again kind number (line ∷ []) is =
    ap (lines_of kind number) (front_again line [] (dark_line kind line is.0))
    ∙ lines_of-last kind number (join_with_byte 32 (line_fields line)) [] line is.1 (line_again kind line is.0)
lines_again kind number (line ∷ next ∷ lines) is =
    ap (lines_of kind number) (front_again line (log_text (next ∷ lines)) (dark_line kind line is.0))
    ∙ lines_of-more kind number (join_with_byte 32 (line_fields line)) (log_text (next ∷ lines)) line is.1 (line_again kind line is.0)
    ∙ ap (with_front (line ∷ [])) (lines_again kind (number + 1) (next ∷ lines) is.2)

le_true : {a b : ℕ} → a ≤ b → nat_le a b ≡ true
le_true {a} {b} h = grind (arith, nat_tests)

-- a printed log is read as the lines that were printed, whatever the number of the first
pub log_again : ReadsWhatIsPrinted
unfolding log_of
log_again kind first lines is few = rw (le_true few) (lines_again kind first lines is)

-- a line is of ASCII
pub line_is_utf8 : (kind : Kind) (line : LogLine) → IsLine kind line → IsUtf8 (line_text line)
line_is_utf8 kind line is =
    let dark = dark_line kind line is in
    let words : IsAscii (join_with_byte 32 (line_fields line)) = rw dark.words (ascii_join dark.first dark.more dark.first_dark dark.more_dark) in
    IsUtf8-from_ascii (line_text line) (IsAscii-push (join_with_byte 32 (line_fields line)) 10 words (omega arith))
