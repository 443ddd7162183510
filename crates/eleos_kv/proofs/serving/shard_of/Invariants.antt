use Rattle.std.proofs.Common.{◌≡◌, ◌<◌, ◌%◌}
use Rattle.std.specs.List.{sum}
use Rattle.std.specs.Prelude.{take}
use Rattle.eleos_kv.proofs.serving.shard_of.Given as goal

-- the sum of the bytes so far, modulo the number of shards
abbrev pub invariant-loop-byte : goal.invariant-loop-byte
invariant-loop-byte l = (l.shard < l.shards) × (l.shard ≡ sum (take l.byte-index l.key) % l.shards)
