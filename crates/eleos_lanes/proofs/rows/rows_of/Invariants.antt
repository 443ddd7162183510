use Rattle.std.proofs.Common.{◌≡◌, ℕ, ◌<◌, [], length, get_or}
use Rattle.eleos_base.specs.BlockField.{block_of, times_bits}
use Rattle.eleos_lanes.proofs.rows.rows_of.Given as goal

abbrev pub invariant-loop-j : goal.invariant-loop-j
invariant-loop-j l =
    (length l.rows ≡ 16)
    × ((k n : ℕ) → k < l.j → n < 16 → get_or (get_or l.rows k []) n 0 ≡ get_or (block_of (times_bits 4 n l.h)) k 0)
