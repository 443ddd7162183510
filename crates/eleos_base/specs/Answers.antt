-- What a call on memory answers, as the reply of its entry.
use Rattle.std.specs.Prelude.{ℕ, List, Result, Ok, Err}
use Rattle.eleos_base.specs.declared.memory.Addr.{Addr}
use Rattle.eleos_base.specs.declared.memory.Reply.{Reply}
use Rattle.eleos_base.specs.declared.memory.Reply.TheVariants as replies
use Rattle.eleos_base.specs.declared.refusals.AllocRefused.{AllocRefused}
use Rattle.eleos_base.specs.declared.refusals.AllocRefused.TheVariants as allocs
use Rattle.eleos_base.specs.declared.refusals.BlockRefused.{BlockRefused}
use Rattle.eleos_base.specs.declared.refusals.BlockRefused.TheVariants as blocks
use Rattle.eleos_base.specs.declared.refusals.AccessRefused.{AccessRefused}
use Rattle.eleos_base.specs.declared.refusals.AccessRefused.TheVariants as accesses

-- the answer of an alloc
abbrev pub alloc_reply : Result Addr AllocRefused → Reply
alloc_reply (Ok at) = replies.Got at
alloc_reply (Err allocs.BadSize) = replies.BadSize
alloc_reply (Err allocs.NoSpace) = replies.NoSpace

-- why a block is neither freed nor shared
abbrev pub block_refusal_reply : BlockRefused → Reply
block_refusal_reply blocks.NotABlock = replies.NotABlock
block_refusal_reply (blocks.NotYours owner) = replies.NotYours owner

-- the answer of a free or a share
abbrev pub block_reply : {A : Type 0} → Result A BlockRefused → Reply
block_reply (Ok done) = replies.Done
block_reply (Err refused) = block_refusal_reply refused

-- why an access is refused
abbrev pub access_refusal_reply : AccessRefused → Reply
access_refusal_reply accesses.BadRange = replies.BadRange
access_refusal_reply accesses.Unallocated = replies.Unallocated
access_refusal_reply (accesses.NotYours owner) = replies.NotYours owner
access_refusal_reply (accesses.Worn s) = replies.Worn s
access_refusal_reply (accesses.Tampered s) = replies.Tampered s

-- the answer of a read that left these bytes in the caller's buffer
abbrev pub read_reply : Result (Unit {0}) AccessRefused → List ℕ → Reply
read_reply (Ok done) text = replies.Text text
read_reply (Err refused) text = access_refusal_reply refused

-- the answer of a write
abbrev pub write_reply : Result (Unit {0}) AccessRefused → Reply
write_reply (Ok done) = replies.Done
write_reply (Err refused) = access_refusal_reply refused
