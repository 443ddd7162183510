-- A pointer that goes on in its range.
use Rattle.std.proofs.Common.{◌≡◌, ℕ, ◌+◌, ◌<◌, ◌==◌, Bool, true, false, not, ◌&&◌, Option, Some, unwrap_or, ℤ, refl, sym, ◌∙◌, ap, subst, arith}
use Rattle.eleos_base.specs.declared.plan.Plan.{Plan}
use Rattle.eleos_machine.specs.declared.pointers.Pointer.{Pointer}
use Rattle.eleos_machine.specs.declared.pointers.SpId.{SpId}
use Rattle.eleos_machine.specs.Passes.{PassState, plan_of, pointer_of}
use Rattle.eleos_machine.specs.Pointers.{cell_under, page_under}
use Rattle.eleos_plot.specs.Terms.{core_terms}
use Rattle.eleos_turn.specs.Hands.{links_on}
use Rattle.eleos_spointer.specs.Changes.{Becomes, IsStep, at_place, leaves_for, moved_to}
use Rattle.eleos_spointer.specs.Ranges.{ArePointers, IsPointer, home_of, is_linked, unlinked}
use Rattle.eleos_spointer.proofs.Changing.{link_there}
use Rattle.eleos_spointer.proofs.Places.{at_caller, small_place}

-- the pointer of a name stands in a range of the pass's enclave
pub placed_of : (s : PassState) (id : SpId) (pointer : Pointer) → ArePointers s → pointer_of s id ≡ Some pointer → IsPointer (plan_of s) (home_of s) pointer
placed_of s id pointer are is = are.placed id pointer is

module _ (k : Plan) (e : ℕ) (pointer : Pointer) (placed : IsPointer k e pointer) where
  -- so does it without its link
  pub unlinked_placed : IsPointer k e (unlinked pointer)
  unlinked_placed = record { range = placed.range; inside = placed.inside }

  -- and after a step
  pub step_placed : (by : ℤ) (to : ℕ) → IsStep k pointer by to → IsPointer k e (at_place pointer to)
  step_placed by to is = record { range = placed.range; inside = is.inside }

  pub moved_placed : (by : ℤ) (to : ℕ) → IsStep k pointer by to → IsPointer k e (moved_to k pointer to)
  moved_placed by to is = record { range = placed.range; inside = is.inside }

-- a step leads to one place
one_step : (k : Plan) (pointer : Pointer) (by : ℤ) (to to' : ℕ) → IsStep k pointer by to → IsStep k pointer by to' → to ≡ to'
one_step k pointer by to to' is is' = let a = is.sum in let b = is'.sum in grind arith

-- one name has one pointer
pub same_pointer : (s : PassState) (id : SpId) (p q : Pointer) → pointer_of s id ≡ Some p → pointer_of s id ≡ Some q → p ≡ q
same_pointer s id p q a b = ap (λ (o : Option Pointer). unwrap_or o p) (sym a ∙ b)

-- it leaves its page where it was linked and is so no more
leaves_is : (was stays : Bool) → was && not (was && stays) ≡ was && not stays
leaves_is true stays = refl
leaves_is false stays = refl

-- what became of a pointer by a step
pub stepped : (k : Plan) (s s' : PassState) (id : SpId) (p : Pointer) (by : ℤ) (to : ℕ) (moved : Pointer) → pointer_of s id ≡ Some p → IsStep k p by to → moved ≡ moved_to k p to
    → Becomes s id p (p.is_linked && not moved.is_linked) (Some moved) s'
    → (q : Pointer) (to' : ℕ) → pointer_of s id ≡ Some q → IsStep k q by to' → Becomes s id q (leaves_for k q to') (Some (moved_to k q to')) s'
stepped k s s' id p by to moved was is moved_is becomes q to' was' is' =
    subst (λ (y : Pointer). (t : ℕ) → IsStep k y by t → Becomes s id y (leaves_for k y t) (Some (moved_to k y t)) s') (same_pointer s id p q was was')
    (λ t it. subst (λ (n : ℕ). Becomes s id p (leaves_for k p n) (Some (moved_to k p n)) s') (one_step k p by to t is it)
    (subst (λ (b : Bool). Becomes s id p b (Some (moved_to k p to)) s') (leaves_is p.is_linked (page_under k (at_place p to) == page_under k p))
    (subst (λ (y : Pointer). Becomes s id p (p.is_linked && not y.is_linked) (Some y) s') moved_is becomes))) to' is'

-- its address is small
pub small_of : (s : PassState) (id : SpId) (pointer : Pointer) → ArePointers s → pointer_of s id ≡ Some pointer → pointer.block.at + pointer.at < 4294967296
small_of s id pointer are is =
    small_place (plan_of s) (home_of s) pointer are.lawful.machine.made.good (at_caller (plan_of s) s.hand.number are.lawful.machine.made.good are.caller) (placed_of s id pointer are is)

-- the pass has a link on the page of a linked pointer
pub link_of : (s : PassState) (id : SpId) (pointer : Pointer) → ArePointers s → pointer_of s id ≡ Some pointer → is_linked (pointer_of s id) ≡ true → 0 < links_on core_terms s.hand (cell_under (plan_of s) pointer)
link_of s id pointer are is linked = link_there s id pointer are.linked is (ap is_linked (sym is) ∙ linked)

-- where the pointer of the name has no step, none of the name has
pub not_stepped : (k : Plan) (s : PassState) (id : SpId) (p q : Pointer) (by : ℤ) → pointer_of s id ≡ Some p → pointer_of s id ≡ Some q → ((to : ℕ) → IsStep k p by to → ⊥) → (to : ℕ) → IsStep k q by to → ⊥
not_stepped k s id p q by was was' none to is = none to (subst (λ (y : Pointer). IsStep k y by to) (sym (same_pointer s id p q was was')) is)

-- where it has one, it is not so that none has
pub steps_there : (k : Plan) (s : PassState) (id : SpId) (p q : Pointer) (by : ℤ) (to : ℕ) → pointer_of s id ≡ Some p → pointer_of s id ≡ Some q → IsStep k p by to → ((t : ℕ) → IsStep k q by t → ⊥) → ⊥
steps_there k s id p q by to was was' is none = none to (subst (λ (y : Pointer). IsStep k y by to) (same_pointer s id p q was was') is)
