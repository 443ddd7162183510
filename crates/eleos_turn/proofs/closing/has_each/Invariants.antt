use Rattle.std.proofs.Common.{ℕ, ◌<◌, ◌≤◌}
use Rattle.eleos_turn.specs.Closings.{HasNumber}
use Rattle.eleos_turn.proofs.closing.has_each.Given as goal

abbrev pub invariant-loop-i : goal.invariant-loop-i
invariant-loop-i g l = (k : ℕ) → 0 < k → k ≤ l.i → HasNumber k l.hands
