-- Replies by their words.
use Rattle.std.specs.Prelude.{ℕ, List, [], ◌∷◌, length, Bool, true, false, ◌==◌, Option, Some, None, Result, Ok, Err, codes, if◌then◌else◌}
use Rattle.eleos_base.specs.declared.memory.Looked.{Looked}
use Rattle.eleos_base.specs.declared.memory.Part.{Part as Offence}
use Rattle.eleos_base.specs.declared.memory.Part.TheVariants.{Present, Frame, Absent, Linked, Owner, Untied}
use Rattle.eleos_texts.specs.declared.why.Why.{Why}
use Rattle.eleos_texts.specs.declared.why.Why.TheVariants.{Form}
use Rattle.eleos_texts.specs.Fields.{is, most_u32}
use Rattle.eleos_texts.specs.Reasons.{with_one, with_two, with_one_and_more, ◌>>=◌}
use Rattle.eleos_trace.specs.declared.trace.Kind.{Kind}
use Rattle.eleos_trace.specs.declared.trace.Kind.TheVariants.{Run, Replay}
use Rattle.eleos_report.specs.declared.answer.Answer.{Answer}
use Rattle.eleos_report.specs.declared.answer.Answer.TheVariants.{At, Okay, Got, Put, BadSize, NoSpace, NotABlock, NotYours, BadRange, Unallocated, Worn, Tampered, NoFrame, Enough, Swept, Reached, Short, Pinned, Illegal, Replied, WrongId, TooLong, BadStatus, Nothing, Skipped}
use Rattle.eleos_report.specs.Fields.{formed, most_u64, number_of, bytes_of, block_of, looked_of}
use Rattle.eleos_report.specs.Commands.{number_alone}

-- the reply stands in logs of this kind: a run has nothing illegal and tells the block that did not pass,
-- and a replay starves for no frame, has no round of the swapper and no change of a share, and calls no host
abbrev pub is_reply : Kind → Answer → Bool
is_reply Run (Illegal part) = false
is_reply Run (Tampered sub None) = false
is_reply Replay (Tampered sub (Some block)) = false
is_reply Replay (NoFrame sweep) = false
is_reply Replay (Enough free sweep) = false
is_reply Replay (Swept free sweep) = false
is_reply Replay (Reached share) = false
is_reply Replay (Short share sweep) = false
is_reply Replay (Pinned share sweep) = false
is_reply Replay (Replied status bytes) = false
is_reply Replay (WrongId seen) = false
is_reply Replay (TooLong seen) = false
is_reply Replay (BadStatus seen) = false
is_reply kind reply = true

-- what is offended against
abbrev pub part_of : List ℕ → Result Offence Why
part_of word =
    if is (codes "present") word then Ok Present
    else if is (codes "frame") word then Ok Frame
    else if is (codes "absent") word then Ok Absent
    else if is (codes "linked") word then Ok Linked
    else if is (codes "owner") word then Ok Owner
    else if is (codes "untied") word then Ok Untied
    else Err Form

-- the frames of a sweep with their words
abbrev pub sweep_of : List (List ℕ) → Result (List Looked) Why
sweep_of [] = Ok []
sweep_of (text ∷ texts) = do
  looked ← looked_of text
  sweep ← sweep_of texts
  Ok (looked ∷ sweep)

-- `N` and the frames of a sweep
abbrev pub counted_of : List (List ℕ) → Result (ℕ × List Looked) Why
counted_of = with_one_and_more (λ n more. (do
  n ← number_of most_u32 n
  sweep ← sweep_of more
  Ok (n, sweep)))

-- the block that did not pass, where one is told
abbrev pub told_block_of : List (List ℕ) → Result (Option (List ℕ)) Why
told_block_of words = if length words == 0 then Ok None else (with_one block_of words >>= λ block. Ok (Some block))

-- `S` or `S HEX` of `tampered`
abbrev pub tampered_of : List (List ℕ) → Result Answer Why
tampered_of = with_one_and_more (λ sub more. (do
  sub ← number_of most_u32 sub
  block ← told_block_of more
  Ok (Tampered sub block)))

-- a reply of one word
abbrev pub plain_of : List ℕ → Result Answer Why
plain_of word =
    if is (codes "ok") word then Ok Okay
    else if is (codes "badsize") word then Ok BadSize
    else if is (codes "nospace") word then Ok NoSpace
    else if is (codes "notablock") word then Ok NotABlock
    else if is (codes "badrange") word then Ok BadRange
    else if is (codes "unallocated") word then Ok Unallocated
    else if is (codes "none") word then Ok Nothing
    else if is (codes "skipped") word then Ok Skipped
    else Err Form

-- a number of 64 bits
abbrev pub long_alone : List (List ℕ) → Result ℕ Why
long_alone = with_one (number_of most_u64)

-- the status and the bytes of `reply`
abbrev pub replied_of : List (List ℕ) → Result Answer Why
replied_of = with_two (λ status hex. (do
  status ← number_of most_u64 status
  bytes ← bytes_of hex
  Ok (Replied status bytes)))

module _ (word : List ℕ) (args : List (List ℕ)) where
  -- what a call of the host came to
  abbrev pub call_answer_of : Result Answer Why
  call_answer_of =
      if is (codes "reply") word then replied_of args
      else if is (codes "wrongid") word then (long_alone args >>= λ seen. Ok (WrongId seen))
      else if is (codes "toolong") word then (long_alone args >>= λ seen. Ok (TooLong seen))
      else if is (codes "badstatus") word then (long_alone args >>= λ seen. Ok (BadStatus seen))
      else Err Form

  -- how a round of the swapper or a change of a share ended, or a plain word
  abbrev pub survey_answer_of : Result Answer Why
  survey_answer_of =
      if is (codes "enough") word then (counted_of args >>= λ x. Ok (Enough x.0 x.1))
      else if is (codes "swept") word then (counted_of args >>= λ x. Ok (Swept x.0 x.1))
      else if is (codes "done") word then (number_alone args >>= λ share. Ok (Reached share))
      else if is (codes "short") word then (counted_of args >>= λ x. Ok (Short x.0 x.1))
      else if is (codes "pinned") word then (counted_of args >>= λ x. Ok (Pinned x.0 x.1))
      else if length args == 0 then plain_of word
      else call_answer_of

  -- a word that has more than a number behind it, or one of those
  abbrev pub other_answer_of : Result Answer Why
  other_answer_of =
      if is (codes "got") word then (with_one bytes_of args >>= λ bytes. Ok (Got bytes))
      else if is (codes "tampered") word then tampered_of args
      else if is (codes "noframe") word then (sweep_of args >>= λ sweep. Ok (NoFrame sweep))
      else if is (codes "illegal") word then (with_one part_of args >>= λ part. Ok (Illegal part))
      else survey_answer_of

  -- a word and a number, or one of those
  abbrev pub answer_of : Result Answer Why
  answer_of =
      if is (codes "at") word then (number_alone args >>= λ at. Ok (At at))
      else if is (codes "put") word then (number_alone args >>= λ count. Ok (Put count))
      else if is (codes "notyours") word then (number_alone args >>= λ owner. Ok (NotYours owner))
      else if is (codes "worn") word then (number_alone args >>= λ sub. Ok (Worn sub))
      else other_answer_of

-- a reply of this kind
abbrev pub answer_in : Kind → List (List ℕ) → Result Answer Why
answer_in kind words = with_one_and_more answer_of words >>= λ reply. formed (is_reply kind reply) reply
