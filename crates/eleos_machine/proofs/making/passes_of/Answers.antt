use Rattle.std.proofs.Common.{◌≡◌, ℕ, [], ◌++◌, vec_capacity, sym, ap, ◌∙◌, subst}
use Rattle.std.specs.List.{AllByRecursion}
use Rattle.eleos_machine.proofs.Listed.{one_of}
use Rattle.eleos_machine.proofs.Stamps.{AreFields, IsNew, all_new, new_fields}
use Rattle.eleos_machine.proofs.making.passes_of.Goals as goal

pub invariant_of-push : goal.invariant_of-push
invariant_of-push c =
    let z = c.args._turnstile.now in
    let rest = c.loop-hand.invariant.2 ∙ ap (λ xs. c.loop-hand.yielded ++ xs) c.in-Some.ensures.steps.0 in
    let new = one_of (IsNew z) c.args.hands.items c.loop-hand.yielded c.in-Some.hand c.next.new.self.rest.items rest (subst (AllByRecursion (IsNew z)) (sym c.requires.dealt) (all_new z 0 c.args.count)) in
    let local = c.in_ok-make.field-0 in
    let made = new_fields z c.in-Some.hand (local.room.items ≡ []) (vec_capacity local.room) c.args.count new c.requires.machine c.in_ok-make.ensures.empty c.requires.count c.in_ok-make.ensures.room in
    subst (λ (n : ℕ). AreFields c.in-Some.hand n (local.room.items ≡ []) (vec_capacity local.room)) (sym c.in_ok-make.ensures.last) made
