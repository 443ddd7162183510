-- What the readers of replies give.
use Rattle.std.proofs.Common.{◌≡◌, ℕ, List, [], ◌∷◌, length, eqb, Option, Some, None, Ok, Err, true, codes}
use Rattle.std.specs.Prelude.{IfOk, IfSome}
use Rattle.std.specs.List.{AllByRecursion}
use Rattle.eleos_base.specs.declared.memory.Looked.{Looked}
use Rattle.eleos_texts.specs.declared.why.Why.TheVariants.{Form}
use Rattle.eleos_texts.specs.Fields.{is, most_u32}
use Rattle.eleos_texts.specs.Reasons.{one, two, one_and_more, with_one, with_one_and_more}
use Rattle.eleos_trace.specs.declared.trace.Kind.{Kind}
use Rattle.eleos_report.specs.declared.answer.Answer.{Answer}
use Rattle.eleos_report.specs.declared.answer.Answer.TheVariants.{At, Okay, Got, Put, BadSize, NoSpace, NotABlock, NotYours, BadRange, Unallocated, Worn, NoFrame, Enough, Swept, Reached, Short, Pinned, Illegal, Replied, WrongId, TooLong, BadStatus, Nothing, Skipped}
use Rattle.eleos_report.specs.Fields.{most_u64, number_of, bytes_of, block_of, looked_of}
use Rattle.eleos_report.specs.Commands.{number_alone}
use Rattle.eleos_report.specs.Answers.{is_reply, part_of, sweep_of, told_block_of, tampered_of, plain_of, long_alone, replied_of, call_answer_of, counted_of, survey_answer_of, other_answer_of, answer_of, answer_in}
use Rattle.eleos_report.specs.Grammar.{IsShort, IsLong, HasParts, IsLooked, IsBlock}
use Rattle.hex.specs.Hex.{IsBytes}
use Rattle.eleos_report.proofs.ReadFields.{step, any_step, tested, either, short_is, long_is, bytes_are, block_is, looked_is}
use Rattle.eleos_report.proofs.ReadCommands.{number_alone_is}

abbrev AreLooked : List Looked → Type 0
AreLooked sweep = AllByRecursion IsLooked sweep

sweep_is : (words : List (List ℕ)) → IfOk (sweep_of words) AreLooked
sweep_is [] = tt
sweep_is (word ∷ words) = step IsLooked AreLooked (looked_of word) _ (looked_is word) (λ looked is.
    step AreLooked AreLooked (sweep_of words) _ (sweep_is words) (λ sweep are. (is, are)))

-- a number, and frames with their words
abbrev IsCounted : ℕ × List Looked → Type 0
IsCounted x = IsShort x.0 × AreLooked x.1

counted_is : (args : List (List ℕ)) → IfOk (counted_of args) IsCounted
counted_is args = any_step IsCounted (one_and_more args) _ (λ x.
    step IsShort IsCounted (number_of most_u32 x.0) _ (short_is x.0) (λ n fits.
    step AreLooked IsCounted (sweep_of x.1) _ (sweep_is x.1) (λ sweep are. (fits, are))))

abbrev IsTold : Option (List ℕ) → Type 0
IsTold block = IfSome block IsBlock

told_block_is : (words : List (List ℕ)) → IfOk (told_block_of words) IsTold
told_block_is words = either IsTold (eqb (length words) 0) (Ok None) _ tt
    (step IsBlock IsTold (with_one block_of words) (λ block. Ok (Some block)) (any_step IsBlock (one words) block_of block_is) (λ block is. is))

tampered_is : (words : List (List ℕ)) → IfOk (tampered_of words) HasParts
tampered_is words = any_step HasParts (one_and_more words) _ (λ x.
    step IsShort HasParts (number_of most_u32 x.0) _ (short_is x.0) (λ sub fits.
    step IsTold HasParts (told_block_of x.1) _ (told_block_is x.1) (λ block told. (fits, told))))

plain_is : (word : List ℕ) → IfOk (plain_of word) HasParts
plain_is word =
    either HasParts (is (codes "ok") word) (Ok Okay) _ tt
    (either HasParts (is (codes "badsize") word) (Ok BadSize) _ tt
    (either HasParts (is (codes "nospace") word) (Ok NoSpace) _ tt
    (either HasParts (is (codes "notablock") word) (Ok NotABlock) _ tt
    (either HasParts (is (codes "badrange") word) (Ok BadRange) _ tt
    (either HasParts (is (codes "unallocated") word) (Ok Unallocated) _ tt
    (either HasParts (is (codes "none") word) (Ok Nothing) _ tt
    (either HasParts (is (codes "skipped") word) (Ok Skipped) (Err Form) tt tt)))))))

long_alone_is : (args : List (List ℕ)) → IfOk (long_alone args) IsLong
long_alone_is args = any_step IsLong (one args) (number_of most_u64) long_is

replied_is : (args : List (List ℕ)) → IfOk (replied_of args) HasParts
replied_is args = any_step HasParts (two args) _ (λ x.
    step IsLong HasParts (number_of most_u64 x.0) _ (long_is x.0) (λ status fits.
    step IsBytes HasParts (bytes_of x.1) _ (bytes_are x.1) (λ bytes are. (fits, are))))

module _ (word : List ℕ) (args : List (List ℕ)) where
  call_answer_is : IfOk (call_answer_of word args) HasParts
  call_answer_is =
      either HasParts (is (codes "reply") word) (replied_of args) _ (replied_is args)
      (either HasParts (is (codes "wrongid") word) _ _ (step IsLong HasParts (long_alone args) (λ seen. Ok (WrongId seen)) (long_alone_is args) (λ seen fits. fits))
      (either HasParts (is (codes "toolong") word) _ _ (step IsLong HasParts (long_alone args) (λ seen. Ok (TooLong seen)) (long_alone_is args) (λ seen fits. fits))
      (either HasParts (is (codes "badstatus") word) _ (Err Form) (step IsLong HasParts (long_alone args) (λ seen. Ok (BadStatus seen)) (long_alone_is args) (λ seen fits. fits)) tt)))

  survey_answer_is : IfOk (survey_answer_of word args) HasParts
  survey_answer_is =
      either HasParts (is (codes "enough") word) _ _ (step IsCounted HasParts (counted_of args) (λ x. Ok (Enough x.0 x.1)) (counted_is args) (λ x are. are))
      (either HasParts (is (codes "swept") word) _ _ (step IsCounted HasParts (counted_of args) (λ x. Ok (Swept x.0 x.1)) (counted_is args) (λ x are. are))
      (either HasParts (is (codes "done") word) _ _ (step IsShort HasParts (number_alone args) (λ share. Ok (Reached share)) (number_alone_is args) (λ share fits. fits))
      (either HasParts (is (codes "short") word) _ _ (step IsCounted HasParts (counted_of args) (λ x. Ok (Short x.0 x.1)) (counted_is args) (λ x are. are))
      (either HasParts (is (codes "pinned") word) _ _ (step IsCounted HasParts (counted_of args) (λ x. Ok (Pinned x.0 x.1)) (counted_is args) (λ x are. are))
      (either HasParts (eqb (length args) 0) (plain_of word) (call_answer_of word args) (plain_is word) call_answer_is)))))

  other_answer_is : IfOk (other_answer_of word args) HasParts
  other_answer_is =
      either HasParts (is (codes "got") word) _ _ (step IsBytes HasParts (with_one bytes_of args) (λ bytes. Ok (Got bytes)) (any_step IsBytes (one args) bytes_of bytes_are) (λ bytes are. are))
      (either HasParts (is (codes "tampered") word) (tampered_of args) _ (tampered_is args)
      (either HasParts (is (codes "noframe") word) _ _ (step AreLooked HasParts (sweep_of args) (λ sweep. Ok (NoFrame sweep)) (sweep_is args) (λ sweep are. are))
      (either HasParts (is (codes "illegal") word) _ _ (any_step HasParts (with_one part_of args) (λ part. Ok (Illegal part)) (λ part. tt))
      survey_answer_is)))

  answer_of_is : IfOk (answer_of word args) HasParts
  answer_of_is =
      either HasParts (is (codes "at") word) _ _ (step IsShort HasParts (number_alone args) (λ at. Ok (At at)) (number_alone_is args) (λ at fits. fits))
      (either HasParts (is (codes "put") word) _ _ (step IsShort HasParts (number_alone args) (λ count. Ok (Put count)) (number_alone_is args) (λ count fits. fits))
      (either HasParts (is (codes "notyours") word) _ _ (step IsShort HasParts (number_alone args) (λ owner. Ok (NotYours owner)) (number_alone_is args) (λ owner fits. fits))
      (either HasParts (is (codes "worn") word) _ (other_answer_of word args) (step IsShort HasParts (number_alone args) (λ sub. Ok (Worn sub)) (number_alone_is args) (λ sub fits. fits)) other_answer_is)))

-- a reply with its parts, of the kind
abbrev pub IsAnswer : Kind → Answer → Type 0
IsAnswer kind reply = HasParts reply × (is_reply kind reply ≡ true)

-- a reply that is read is one that this kind of log has, and its numbers and bytes are in their limits
pub answer_is : (kind : Kind) (words : List (List ℕ)) → IfOk (answer_in kind words) (IsAnswer kind)
answer_is kind words = step HasParts (IsAnswer kind) (with_one_and_more answer_of words) _ (any_step HasParts (one_and_more words) (λ x. answer_of x.0 x.1) (λ x. answer_of_is x.0 x.1))
    (λ reply has. tested (IsAnswer kind) (is_reply kind reply) reply (λ is. (has, is)))
