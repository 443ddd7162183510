use Rattle.std.proofs.Common.{ℕ, ◌+◌, [], ◌∷◌, refl, sym, ap, ◌∙◌, inl}
use Rattle.eleos_turn.specs.Hands.{part_of}
use Rattle.eleos_turn.proofs.Clients.{stamped_part}
use Rattle.eleos_turn.proofs.Numbers.{here}
use Rattle.turn_bench.proofs.worker.round.Invariants.{row}
use Rattle.turn_bench.proofs.worker.round.Goals as goal

pub give-requires-2-clause-right : goal.give-requires-2-clause-right
give-requires-2-clause-right g c = let s = c.take.new.hand in let cell = c.args.cell in let now : ℕ = part_of row s cell in
    ap (λ (n : ℕ). n + 1) c.take.ensures.took.part ∙ (sym (here {A = ℕ} cell cell (now + 1) now refl)
    ∙ sym (stamped_part row (record { by = c.args.by; cell = cell }) ((cell, now + 1) ∷ []) s c.stamp.new.hand c.stamp.result c.stamp.ensures.stamped cell (inl refl)))
