use Rattle.std.proofs.Common.{◌-◌, ◌≡◌, ◌≤◌, ◌<◌, ℕ, length, get_or, bit_xor}
use Rattle.eleos_lanes.proofs.bytes.xor_into.Given as goal

abbrev pub invariant-loop-at : goal.invariant-loop-at
invariant-loop-at l =
    (length l.into ≡ l.n) × (l.at ≤ l.n)
    × ((k : ℕ) → k < l.at → get_or l.into k 0 ≡ bit_xor (get_or l.fn.into k 0) (get_or l.fn.from k 0))
    × ((k : ℕ) → l.at ≤ k → get_or l.into k 0 ≡ get_or l.fn.into k 0)

abbrev pub decreases-loop-at : goal.decreases-loop-at
decreases-loop-at l = l.n - l.at

abbrev pub invariant-loop-at-2 : goal.invariant-loop-at-2
invariant-loop-at-2 l =
    (length l.into ≡ l.n) × (l.at ≤ l.n)
    × ((k : ℕ) → k < l.at → get_or l.into k 0 ≡ bit_xor (get_or l.fn.into k 0) (get_or l.fn.from k 0))
    × ((k : ℕ) → l.at ≤ k → get_or l.into k 0 ≡ get_or l.fn.into k 0)

abbrev pub decreases-loop-at-2 : goal.decreases-loop-at-2
decreases-loop-at-2 l = l.n - l.at
