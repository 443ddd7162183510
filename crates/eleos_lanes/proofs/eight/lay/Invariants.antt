use Rattle.std.proofs.Common.{◌≡◌, ℕ, ◌*◌, ◌<◌, [], length, take, drop, get_or}
use Rattle.eleos_lanes.proofs.eight.lay.Given as goal

abbrev pub invariant-loop-k : goal.invariant-loop-k
invariant-loop-k l =
    (length l.bytes ≡ 128) × ((j : ℕ) → j < l.k → take 16 (drop (16 * j) l.bytes) ≡ get_or l.v j [])
    × ((j i : ℕ) → j < l.k → get_or (get_or l.v j []) i 0 < 256)
