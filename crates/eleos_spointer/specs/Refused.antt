-- Why links are refused.
use Rattle.std.specs.Prelude.{[]}
use Rattle.eleos_base.specs.declared.memory.Reply.{Reply}
use Rattle.eleos_base.specs.declared.memory.Reply.TheVariants as replies
use Rattle.eleos_base.specs.declared.refusals.AccessRefused.{AccessRefused}
use Rattle.eleos_base.specs.declared.refusals.AccessRefused.TheVariants as accesses
use Rattle.eleos_spointer.specs.declared.refusing.LinkRefused.{LinkRefused}
use Rattle.eleos_spointer.specs.declared.refusing.LinkRefused.TheVariants.{NoFrame, NotYours, Tampered, Unallocated}

-- the refusal as a reply, without the words of a sweep
abbrev pub refusal_reply : LinkRefused → Reply
refusal_reply Unallocated = replies.Unallocated
refusal_reply (NotYours owner) = replies.NotYours owner
refusal_reply NoFrame = replies.NoFrame []
refusal_reply (Tampered sub) = replies.Tampered sub

-- plain memory refuses it
abbrev pub IsPlain : LinkRefused → Type 0
IsPlain Unallocated = Unit {0}
IsPlain (NotYours owner) = Unit {0}
IsPlain _ = ⊥

-- the access is refused by the block of its sub-page
abbrev pub IsOfUse : AccessRefused → Type 0
IsOfUse accesses.Unallocated = Unit {0}
IsOfUse (accesses.NotYours owner) = Unit {0}
IsOfUse _ = ⊥
