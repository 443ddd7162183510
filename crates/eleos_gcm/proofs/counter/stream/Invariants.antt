use Rattle.std.proofs.Common.{◌≡◌, ℕ, ◌*◌, ◌<◌, length, take, drop}
use Rattle.eleos_gcm.specs.Stream.{later}
use Rattle.eleos_gcm.proofs.counter.stream.Given as goal

abbrev pub invariant-loop-k : goal.invariant-loop-k
invariant-loop-k l =
    (length l.counters ≡ 128) × (length l.counter ≡ 16) × (l.counter ≡ later l.k l.fn.counter)
    × ((j : ℕ) → j < l.k → take 16 (drop (16 * j) l.counters) ≡ later j l.fn.counter)
