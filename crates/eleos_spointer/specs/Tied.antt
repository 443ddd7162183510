-- A page that is linked for a pointer.
use Rattle.std.specs.Prelude.{◌≡◌, ◌≢◌, ℕ, ◌+◌, ◌<◌, ◌≤◌, [], ◌∷◌, length, true, Some, is_some, slice_set}
use Rattle.eleos_base.specs.declared.memory.Reply.TheVariants.{Done}
use Rattle.eleos_base.specs.Plans.{IsCaller}
use Rattle.eleos_core.specs.declared.event.Wanted.TheVariants.{Link as ALink}
use Rattle.eleos_core.specs.Accesses.{link_stamp}
use Rattle.eleos_core.specs.Parts.{Made}
use Rattle.eleos_plot.specs.Terms.{core_terms}
use Rattle.eleos_turn.specs.Hands.{Goes, links_on}
use Rattle.eleos_turn.specs.Numbers.{most_pins, times}
use Rattle.eleos_machine.specs.declared.holding.HeldPage.{HeldPage}
use Rattle.eleos_machine.specs.declared.pointers.Pointer.{Pointer}
use Rattle.eleos_machine.specs.declared.pointers.SpId.{SpId}
use Rattle.eleos_machine.specs.Holding.{HasPage, frame_seen}
use Rattle.eleos_machine.specs.Machines.{Site}
use Rattle.eleos_machine.specs.Passes.{IsLawful, PassState, plan_of, pointer_of, seen}
use Rattle.eleos_machine.specs.Pointers.{cell_under, page_under, place_of}
use Rattle.eleos_spointer.specs.Brought.{Accepts}
use Rattle.eleos_spointer.specs.Ranges.{IsPointer, home_of}
use Rattle.eleos_spointer.specs.Reached.{Stands}

-- the same place in the same range, with a link
abbrev pub with_link : Pointer → Pointer
with_link pointer = record pointer { is_linked = true }

-- the pass is a caller's, and the page under its pointer is in a frame; the pass has its turn and no other, a stamp and room for a pin, and plain memory does not refuse it a byte there
pub record MayTie (z : Site) (s : PassState) (id : SpId) (pointer : Pointer) (page : HeldPage) : Type 0 where
  pub own : s.hand.home ≡ z
  pub caller : IsCaller (plan_of s) s.hand.number
  pub left : 0 < s.hand.left
  pub was : pointer_of s id ≡ Some pointer
  pub placed : IsPointer (plan_of s) (home_of s) pointer
  pub covered : (c : ℕ) → links_on core_terms s.hand c ≤ times c s.hand.pins
  pub few : length s.hand.pins < most_pins
  pub page_is : page.page ≡ page_under (plan_of s) pointer
  pub has : HasPage s page.page page.cell
  pub turns : s.hand.turns ≡ cell_under (plan_of s) pointer ∷ []
  pub present : is_some (frame_seen s page.page) ≡ true
  pub accepted : Accepts s page (ALink (place_of pointer))

-- the pass looked at no cell and tried none
pub record TriesNone (s s' : PassState) : Type 0 where
  pub looks : s'.hand.looks ≡ s.hand.looks
  pub misses : s'.hand.misses ≡ s.hand.misses
  pub tried : s'.hand.tried ≡ s.hand.tried

-- the pass stamped a link at the place of the pointer and no other entry. It has one pin and one link more on its page, and no turn; the pointer is
-- linked, and nothing else changed of the pointers
pub record Ties (s : PassState) (id : SpId) (pointer : Pointer) (s' : PassState) : Type 0 where
  pub tied : Made
  pub is : tied.1 ≡ link_stamp s.hand.number (place_of pointer) Done
  pub stands : Stands s.hand.home (seen s') tied
  pub goes : Goes core_terms s.hand s'.hand (tied ∷ [])
  pub turns : s'.hand.turns ≡ []
  pub pins : s'.hand.pins ≡ cell_under (plan_of s) pointer ∷ s.hand.pins
  pub link : links_on core_terms s'.hand (cell_under (plan_of s) pointer) ≡ links_on core_terms s.hand (cell_under (plan_of s) pointer) + 1
  pub links : (c : ℕ) → c ≢ cell_under (plan_of s) pointer → links_on core_terms s'.hand c ≡ links_on core_terms s.hand c
  pub pointers : s'.pointers ≡ slice_set s.pointers id.key (Some (with_link pointer))
  pub quiet : TriesNone s s'
  pub lawful : IsLawful s'
