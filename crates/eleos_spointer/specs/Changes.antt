-- What the calls on pointers change.
use Rattle.std.specs.Prelude.{◌≡◌, ℕ, ◌+◌, ◌<◌, ◌==◌, ◌&&◌, not, Bool, true, false, Option, Some, None, slice_set, pos, ◌+ℤ◌, ℤ}
use Rattle.eleos_base.specs.declared.plan.Plan.{Plan}
use Rattle.eleos_machine.specs.declared.pointers.Pointer.{Pointer}
use Rattle.eleos_machine.specs.declared.pointers.SpId.{SpId}
use Rattle.eleos_machine.specs.Passes.{PassState, plan_of, pointer_of}
use Rattle.eleos_machine.specs.Pointers.{Puts, is_linked_on, page_under, pointers_in}
use Rattle.eleos_spointer.specs.Ranges.{range_bytes}
use Rattle.eleos_spointer.specs.Unlinked.{Unlinks}

-- the pass has this pointer more, under a name that none of its pointers had; nothing else changed
pub record HasAdded (s : PassState) (id : SpId) (pointer : Pointer) (s' : PassState) : Type 0 where
  pub fresh : pointer_of s id ≡ None
  pub added : Puts s.pointers s'.pointers id.key (Some pointer)
  pub count : pointers_in s'.pointers ≡ pointers_in s.pointers + 1
  pub rest : s' ≡ record s { pointers = s'.pointers }

-- the pass unlinked the page where it leaves it, and else did nothing
abbrev pub LetsGo : PassState → ℕ → Bool → PassState → Type 0
LetsGo s page true s' = Unlinks s page s'
LetsGo s page false s' = s' ≡ record s { pointers = s'.pointers }

-- the pointer of this name was the first and is the second now, or gone. Where it leaves its page by that, the pass unlinked the page; nothing else changed
pub record Becomes (s : PassState) (id : SpId) (pointer : Pointer) (leaves : Bool) (now : Option Pointer) (s' : PassState) : Type 0 where
  pub was : pointer_of s id ≡ Some pointer
  pub pointers : s'.pointers ≡ slice_set s.pointers id.key now
  pub page : LetsGo s (page_under (plan_of s) pointer) leaves s'

-- by this change just the page that the pointer leaves gets one linked pointer less
pub record MayBecome (k : Plan) (pointer : Pointer) (leaves : Bool) (now : Option Pointer) : Type 0 where
  pub linked : leaves ≡ true → pointer.is_linked ≡ true
  pub free : leaves ≡ true → (c : ℕ) → is_linked_on k c now ≡ false
  pub same : leaves ≡ false → (c : ℕ) → is_linked_on k c now ≡ is_linked_on k c (Some pointer)

-- so many bytes further the pointer stands at this place of its range
pub record IsStep (k : Plan) (pointer : Pointer) (by : ℤ) (to : ℕ) : Type 0 where
  pub sum : pos to ≡ pos pointer.at +ℤ by
  pub inside : to < range_bytes k pointer

-- the pointer at this place of its range
abbrev pub at_place : Pointer → ℕ → Pointer
at_place pointer to = record pointer { at = to }

-- it is linked, and leaves its page by going there
abbrev pub leaves_for : Plan → Pointer → ℕ → Bool
leaves_for k pointer to = pointer.is_linked && not (page_under k (at_place pointer to) == page_under k pointer)

-- the pointer after it went there: it stays linked on its page alone
abbrev pub moved_to : Plan → Pointer → ℕ → Pointer
moved_to k pointer to = record pointer { at = to; is_linked = pointer.is_linked && page_under k (at_place pointer to) == page_under k pointer }
