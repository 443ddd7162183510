use Rattle.std.proofs.Common.{ℕ, Some, ◌+◌, [], ◌∷◌, refl, sym, ap, ◌∙◌, subst, inl, inr}
use Rattle.eleos_base.specs.Ties.{Has}
use Rattle.turn_tests.specs.declared.counters.Raise.{Raise}
use Rattle.eleos_turn.specs.Hands.{HandState, part_of}
use Rattle.eleos_turn.proofs.Clients.{took_part, stamped_part}
use Rattle.turn_tests.specs.Row.{row}
use Rattle.turn_tests.proofs.counters.raise_two.Goals as goal

pub give-requires-then-one-clause-right : goal.give-requires-then-one-clause-right
give-requires-then-one-clause-right g c = let had : Has 0 c.take.new.hand.turns = subst (λ (y : HandState Raise ℕ (Unit {0})). Has 0 y.turns) (sym c.take.ensures.took.now) (inl refl) in
    c.take.ensures.took.part ∙ (sym (took_part row 1 c.take-2.result.word c.take.new.hand c.take-2.new.hand c.take-2.result.value c.take-2.ensures.took c.take-2.ensures.sound 0 had)
    ∙ sym (ap (λ (y : HandState Raise ℕ (Unit {0})). part_of row y 0) c.give.ensures.given))

pub give-requires-2-clause-right : goal.give-requires-2-clause-right
give-requires-2-clause-right g c = let s = c.take-2.new.hand in
    ap (λ (n : ℕ). n + 1) c.take-2.ensures.took.part
    ∙ sym (stamped_part row (record { by = c.number.result; first = 0; second = Some 1 }) ((0, part_of row s 0 + 1) ∷ (1, part_of row s 1 + 1) ∷ []) s c.stamp-stamp.new.hand c.stamp-stamp.result c.stamp-stamp.ensures.stamped 1 (inr (inl refl)))

pub give-requires-3-clause-right : goal.give-requires-3-clause-right
give-requires-3-clause-right g c = let s = c.take-2.new.hand in let had : Has 0 c.take.new.hand.turns = subst (λ (y : HandState Raise ℕ (Unit {0})). Has 0 y.turns) (sym c.take.ensures.took.now) (inl refl) in
    ap (λ (n : ℕ). n + 1) (c.take.ensures.took.part ∙ sym (took_part row 1 c.take-2.result.word c.take.new.hand s c.take-2.result.value c.take-2.ensures.took c.take-2.ensures.sound 0 had))
    ∙ (sym (stamped_part row (record { by = c.number.result; first = 0; second = Some 1 }) ((0, part_of row s 0 + 1) ∷ (1, part_of row s 1 + 1) ∷ []) s c.stamp-stamp.new.hand c.stamp-stamp.result c.stamp-stamp.ensures.stamped 0 (inl refl))
    ∙ sym (ap (λ (y : HandState Raise ℕ (Unit {0})). part_of row y 0) c.give-2.ensures.given))
