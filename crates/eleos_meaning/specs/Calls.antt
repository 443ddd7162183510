-- How a reply is printed, and an offset added.
use Rattle.std.specs.Prelude.{ℕ, ◌+◌, ◌-◌, ◌^◌, List, min}
use Rattle.eleos_base.specs.declared.memory.Addr.{Addr}
use Rattle.eleos_base.specs.declared.memory.Reply.{Reply}
use Rattle.eleos_base.specs.declared.memory.Reply.TheVariants as replies
use Rattle.eleos_base.specs.Lists.{last_of}
use Rattle.eleos_report.specs.declared.answer.Answer.{Answer}
use Rattle.eleos_report.specs.declared.answer.Answer.TheVariants as answers

-- the address with the offset added, which stops at the last number of 32 bits
abbrev pub at_offset : Addr → ℕ → Addr
at_offset at offset = record at { at = min (at.at + offset) (2 ^ 32 - 1) }

-- a reply as it is printed: with the block that did not pass, the last of those that came. No call gets the last five
abbrev pub answer_of : Reply → List (List ℕ) → Answer
answer_of (replies.Got at) blocks = answers.At at.at
answer_of replies.Done blocks = answers.Okay
answer_of (replies.Text bytes) blocks = answers.Got bytes
answer_of replies.BadSize blocks = answers.BadSize
answer_of replies.NoSpace blocks = answers.NoSpace
answer_of replies.NotABlock blocks = answers.NotABlock
answer_of replies.BadRange blocks = answers.BadRange
answer_of replies.Unallocated blocks = answers.Unallocated
answer_of (replies.NotYours owner) blocks = answers.NotYours owner
answer_of (replies.Worn sub) blocks = answers.Worn sub
answer_of (replies.NoFrame sweep) blocks = answers.NoFrame sweep
answer_of (replies.Tampered sub) blocks = answers.Tampered sub (last_of blocks)
answer_of (replies.Enough n) blocks = answers.Nothing
answer_of (replies.Swept n) blocks = answers.Nothing
answer_of (replies.Reached n) blocks = answers.Nothing
answer_of (replies.Pinned n) blocks = answers.Nothing
answer_of (replies.Short n) blocks = answers.Nothing
