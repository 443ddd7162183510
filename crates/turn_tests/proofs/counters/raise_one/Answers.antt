use Rattle.std.proofs.Common.{ℕ, None, ◌+◌, [], ◌∷◌, refl, sym, ap, ◌∙◌, inl}
use Rattle.eleos_turn.specs.Hands.{part_of}
use Rattle.eleos_turn.proofs.Clients.{stamped_part}
use Rattle.eleos_turn.proofs.Numbers.{here}
use Rattle.turn_tests.specs.Row.{row}
use Rattle.turn_tests.proofs.counters.raise_one.Goals as goal

pub give-requires-2-clause-right : goal.give-requires-2-clause-right
give-requires-2-clause-right g c = let s = c.take.new.hand in let now : ℕ = part_of row s 0 in
    ap (λ (n : ℕ). n + 1) c.take.ensures.took.part ∙ (sym (here {A = ℕ} 0 0 (now + 1) now refl)
    ∙ sym (stamped_part row (record { by = c.number.result; first = 0; second = None }) ((0, now + 1) ∷ []) s c.stamp-place.new.hand c.stamp-place.result c.stamp-place.ensures.stamped 0 (inl refl)))
