-- What is read is a log.
use Rattle.std.proofs.Common.{◌≡◌, ℕ, ◌+◌, List, [], ◌∷◌, length, Option, Result, Ok, Err, Bool, true, false, cond, nat_le, refl, codes}
use Rattle.std.specs.Prelude.{IfOk, IfSome}
use Rattle.std.specs.List.{slice_split}
use Rattle.eleos_texts.specs.declared.why.Why.{Why}
use Rattle.eleos_texts.specs.declared.why.Why.TheVariants.{TooLarge}
use Rattle.eleos_texts.specs.Fields.{is, is_blank, is_newline}
use Rattle.eleos_texts.specs.Reasons.{at_line, one, one_and_more, ◌>>=◌}
use Rattle.eleos_texts.specs.Texts.{ended, most_text}
use Rattle.eleos_trace.specs.declared.trace.Kind.{Kind}
use Rattle.eleos_report.specs.declared.line.LogLine.{LogLine}
use Rattle.eleos_report.specs.declared.line.LogLine.TheVariants.{End}
use Rattle.eleos_report.specs.Fields.{most_u64, number_of, optional_of, who_of}
use Rattle.eleos_report.specs.Commands.{command_in}
use Rattle.eleos_report.specs.Answers.{answer_in}
use Rattle.eleos_report.specs.Grammar.{IsLong, IsWho, IsLine, IsLog}
use Rattle.eleos_report.specs.Log.{is_last}
use Rattle.eleos_report.specs.Reading.{parted, said_of, end_of, line_of, lines_of, log_of}
use Rattle.eleos_report.proofs.ReadFields.{step, any_step, either, long_is, stamp_is, who_is}
use Rattle.eleos_report.proofs.ReadCommands.{IsCommand, command_is}
use Rattle.eleos_report.proofs.ReadAnswers.{IsAnswer, answer_is}

abbrev IsStamp : Option ℕ → Type 0
IsStamp stamp = IfSome stamp IsLong

said_is : (kind : Kind) (stamp : List ℕ) (words : List (List ℕ)) → IfOk (said_of kind stamp words) (IsLine kind)
said_is kind stamp words = step IsStamp (IsLine kind) (optional_of most_u64 stamp) _ (stamp_is stamp) (λ place place_is.
    any_step (IsLine kind) (one_and_more words) _ (λ actor.
    step IsWho (IsLine kind) (who_of actor.0) _ (who_is actor.0) (λ who who_is.
    any_step (IsLine kind) (parted actor.1) _ (λ parts.
    step (IsCommand kind who) (IsLine kind) (command_in kind who parts.0) _ (command_is kind who parts.0) (λ command is.
    step (IsAnswer kind) (IsLine kind) (answer_in kind parts.1) _ (answer_is kind parts.1) (λ reply told. record {
      stamp_fits = place_is;
      actor_is = who_is;
      command_is = is.1;
      command_has = is.0;
      reply_is = told.1;
      reply_has = told.0;
    }))))))

end_is : (kind : Kind) (words : List (List ℕ)) → IfOk (end_of words) (IsLine kind)
end_is kind words = any_step (IsLine kind) (one words) _ (λ n. step IsLong (IsLine kind) (number_of most_u64 n) (λ count. Ok (End count)) (long_is n) (λ count fits. fits))

line_is : (kind : Kind) (words : List (List ℕ)) → IfOk (line_of kind words) (IsLine kind)
line_is kind words = any_step (IsLine kind) (one_and_more words) _ (λ x. either (IsLine kind) (is (codes "end") x.0) (end_of x.1) (said_of kind x.0 x.1) (end_is kind x.1) (said_is kind x.0 x.1))

-- what holds of a value that was read holds still where a refusal gets the number of its line
pub numbered : {A : Type 0} (P : A → Type 0) (number : ℕ) (r : Result A Why) → IfOk r P → IfOk (at_line number r) P
numbered P number (Ok x) p = p
numbered P number (Err why) p = tt

-- one line more in front
longer : (kind : Kind) (line : LogLine) (lines : List LogLine) → IsLine kind line → is_last line ≡ false → IsLog kind lines → IsLog kind (line ∷ lines)
longer kind line [] is more all = absurd all
longer kind line (next ∷ lines) is more all = (is, more, all)

lines_are : (kind : Kind) (number : ℕ) (texts : List (List ℕ)) → IfOk (lines_of kind number texts) (IsLog kind)
unfolding lines_of
lines_are kind number [] = tt
lines_are kind number (text ∷ []) = tt
lines_are kind number (text ∷ next ∷ texts) =
    step (IsLine kind) (IsLog kind) (at_line number (line_of kind (slice_split is_blank text))) _ (numbered (IsLine kind) number (line_of kind (slice_split is_blank text)) (line_is kind (slice_split is_blank text)))
    (λ line is. by line is (is_last line) refl (lines_are kind (number + 1) (next ∷ texts)))
  where
    by : (line : LogLine) → IsLine kind line → (b : Bool) → is_last line ≡ b → IfOk (lines_of kind (number + 1) (next ∷ texts)) (IsLog kind)
        → IfOk (cond b (ended (number + 1) (next ∷ texts) >>= λ _. Ok (line ∷ [])) (lines_of kind (number + 1) (next ∷ texts) >>= λ lines. Ok (line ∷ lines))) (IsLog kind)
    by line is true last rest = any_step (IsLog kind) (ended (number + 1) (next ∷ texts)) _ (λ _. (is, last))
    by line is false more rest = step (IsLog kind) (IsLog kind) (lines_of kind (number + 1) (next ∷ texts)) _ rest (λ lines all. longer kind line lines is more all)

-- what reading a text gives is a log
pub log_is : (kind : Kind) (first : ℕ) (text : List ℕ) → IfOk (log_of kind first text) (IsLog kind)
unfolding log_of
log_is kind first text = either (IsLog kind) (nat_le (length text) most_text) (lines_of kind first (slice_split is_newline text)) (Err (record { line = 0; why = TooLarge })) (lines_are kind first (slice_split is_newline text)) tt

-- the same of lines that were read
pub lines_read : (kind : Kind) (number : ℕ) (texts : List (List ℕ)) (lines : List LogLine) → lines_of kind number texts ≡ Ok lines → IsLog kind lines
lines_read kind number texts lines e = let are = lines_are kind number texts in rw e at are
