use Rattle.std.proofs.Common.{ℕ, ◌<◌, ◌≡◌, get_or}
use Rattle.eleos_turn.specs.Hands.{HandState}
use Rattle.eleos_turn.proofs.closing.has_number.Given as goal

abbrev pub invariant-loop-hand : goal.invariant-loop-hand
invariant-loop-hand g l = (i : ℕ) (x : HandState g.row.P-Draft.Denot g.row.P-Part.Denot g.row.P-Ground.Denot) → i < l.hand-index → l.number ≡ (get_or l.hands i x).number → ⊥
