use Rattle.std.proofs.Common.{ℕ, ◌<◌, Bool, Some, ℤ, length, to_z-of_z, refl, sym, ◌∙◌, ap, subst}
use Rattle.eleos_base.specs.declared.plan.Plan.{Plan}
use Rattle.eleos_machine.specs.Machines.{plan_at}
use Rattle.eleos_machine.specs.Passes.{PassState, plan_of}
use Rattle.eleos_spointer.specs.Changes.{Becomes, IsStep, at_place, moved_to}
use Rattle.eleos_spointer.specs.Ranges.{IsPointer, home_of}
use Rattle.eleos_spointer.proofs.Places.{at_own, home_below}
use Rattle.eleos_spointer.proofs.Stepping.{moved_placed, not_stepped, placed_of, step_placed, stepped, steps_there}
use Rattle.eleos_spointer.proofs.steps.step.Goals as goal

pub target-requires : goal.target-requires
target-requires g c = (placed_of c.args.pass.now c.args.id c.in-Some.pointer c.requires.pointers (sym c.pointer.ensures ∙ c.in-Some.is)).range.few

pub returns-in_default-target-clause-out : goal.returns-in_default-target-clause-out
returns-in_default-target-clause-out g c = λ pointer is.
    (λ err. λ to step. not_stepped (plan_of c.args.pass.now) c.args.pass.now c.args.id c.in-Some.pointer pointer c.args.by (sym c.pointer.ensures ∙ c.in-Some.is) is (subst (λ (y : ℤ). (t : ℕ) → IsStep (plan_of c.args.pass.now) c.in-Some.pointer y t → ⊥) (to_z-of_z c.ranges.by) (c.in_default-target.ensures (plan_of c.args.pass.now))) to step, λ none. refl)

pub returns-in_default-target-clause-steps : goal.returns-in_default-target-clause-steps
returns-in_default-target-clause-steps g c = λ pointer to is step.
    absurd (not_stepped (plan_of c.args.pass.now) c.args.pass.now c.args.id c.in-Some.pointer pointer c.args.by (sym c.pointer.ensures ∙ c.in-Some.is) is (subst (λ (y : ℤ). (t : ℕ) → IsStep (plan_of c.args.pass.now) c.in-Some.pointer y t → ⊥) (to_z-of_z c.ranges.by) (c.in_default-target.ensures (plan_of c.args.pass.now))) to step)

pub moved_to-moved-requires-clause-enclave : goal.moved_to-moved-requires-clause-enclave
moved_to-moved-requires-clause-enclave g c =
    let s : PassState = c.args.pass.now in
    subst (λ (k : Plan). c.in-Some.pointer.block.enclave < length k.enclaves) (ap plan_at c.requires.can.own ∙ sym c.plan.ensures.plan)
    (home_below (plan_of s) s.hand.number c.in-Some.pointer c.requires.pointers.lawful.machine.made.good c.requires.pointers.caller (placed_of s c.args.id c.in-Some.pointer c.requires.pointers (sym c.pointer.ensures ∙ c.in-Some.is)))

pub moved_to-moved-requires-clause-from : goal.moved_to-moved-requires-clause-from
moved_to-moved-requires-clause-from g c =
    let s : PassState = c.args.pass.now in
    subst (λ (k : Plan). IsPointer k c.in-Some.pointer.block.enclave c.in-Some.pointer) (ap plan_at c.requires.can.own ∙ sym c.plan.ensures.plan)
    (at_own (plan_of s) (home_of s) c.in-Some.pointer (placed_of s c.args.id c.in-Some.pointer c.requires.pointers (sym c.pointer.ensures ∙ c.in-Some.is)))

pub moved_to-moved-requires-clause-there : goal.moved_to-moved-requires-clause-there
moved_to-moved-requires-clause-there g c =
    let s : PassState = c.args.pass.now in
    subst (λ (k : Plan). IsPointer k c.in-Some.pointer.block.enclave (at_place c.in-Some.pointer c.in-Some-target.to)) (ap plan_at c.requires.can.own ∙ sym c.plan.ensures.plan)
    (at_own (plan_of s) (home_of s) (at_place c.in-Some.pointer c.in-Some-target.to) (step_placed (plan_of s) (home_of s) c.in-Some.pointer (placed_of s c.args.id c.in-Some.pointer c.requires.pointers (sym c.pointer.ensures ∙ c.in-Some.is))
    c.args.by c.in-Some-target.to (subst (λ (y : ℤ). IsStep (plan_of s) c.in-Some.pointer y c.in-Some-target.to) (to_z-of_z c.ranges.by) (c.in-Some-target.ensures (plan_of s)))))

pub change-requires-clause-placed : goal.change-requires-clause-placed
change-requires-clause-placed g c =
    let s : PassState = c.args.pass.now in
    let moved_is = c.moved_to-moved.ensures ∙ ap (λ (k : Plan). moved_to k c.in-Some.pointer c.in-Some-target.to) (sym (ap plan_at c.requires.can.own ∙ sym c.plan.ensures.plan)) in
    subst (IsPointer (plan_of s) (home_of s)) (sym moved_is) (moved_placed (plan_of s) (home_of s) c.in-Some.pointer (placed_of s c.args.id c.in-Some.pointer c.requires.pointers (sym c.pointer.ensures ∙ c.in-Some.is))
    c.args.by c.in-Some-target.to (subst (λ (y : ℤ). IsStep (plan_of s) c.in-Some.pointer y c.in-Some-target.to) (to_z-of_z c.ranges.by) (c.in-Some-target.ensures (plan_of s))))

pub returns-clause-out : goal.returns-clause-out
returns-clause-out g c = λ pointer is.
    (λ err. absurd (cc), λ none. absurd (steps_there (plan_of c.args.pass.now) c.args.pass.now c.args.id c.in-Some.pointer pointer c.args.by c.in-Some-target.to (sym c.pointer.ensures ∙ c.in-Some.is) is (subst (λ (y : ℤ). IsStep (plan_of c.args.pass.now) c.in-Some.pointer y c.in-Some-target.to) (to_z-of_z c.ranges.by) (c.in-Some-target.ensures (plan_of c.args.pass.now))) none))

pub returns-clause-steps : goal.returns-clause-steps
returns-clause-steps g c = λ pointer to is step.
    let s : PassState = c.args.pass.now in
    let moved_is = c.moved_to-moved.ensures ∙ ap (λ (k : Plan). moved_to k c.in-Some.pointer c.in-Some-target.to) (sym (ap plan_at c.requires.can.own ∙ sym c.plan.ensures.plan)) in
    stepped (plan_of s) s c.change.new.pass c.args.id c.in-Some.pointer c.args.by c.in-Some-target.to _ (sym c.pointer.ensures ∙ c.in-Some.is) (subst (λ (y : ℤ). IsStep (plan_of s) c.in-Some.pointer y c.in-Some-target.to) (to_z-of_z c.ranges.by) (c.in-Some-target.ensures (plan_of s))) moved_is
    (subst (λ (b : Bool). Becomes s c.args.id c.in-Some.pointer b (Some c.moved_to-moved.result) c.change.new.pass) c.leaves_for-leaves.ensures c.change.ensures.becomes) pointer to is step
