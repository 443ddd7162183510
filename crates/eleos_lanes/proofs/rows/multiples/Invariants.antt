use Rattle.std.proofs.Common.{◌≡◌, ℕ, ◌<◌, [], length, get_or}
use Rattle.eleos_base.specs.BlockField.{block_of, times_bits}
use Rattle.eleos_lanes.proofs.rows.multiples.Given as goal

abbrev pub invariant-loop-n : goal.invariant-loop-n
invariant-loop-n l =
    (length l.products ≡ 16) × ((k : ℕ) → k < l.n → get_or l.products k [] ≡ block_of (times_bits 4 k l.h))
