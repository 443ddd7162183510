use Rattle.std.proofs.Common.{◌≡◌, ℕ, ◌<◌, [], length, get_or}
use Rattle.eleos_lanes.specs.Planes.{block_at, vectors}
use Rattle.eleos_aes.specs.Sliced.{key_block}
use Rattle.eleos_aes.proofs.cipher.round_keys.Given as goal

abbrev pub invariant-keys : goal.invariant-keys
invariant-keys l =
    (length l.keys ≡ 15)
    × ((n b : ℕ) → n < l.n → b < 8 → block_at (vectors (get_or l.keys n [])) b ≡ key_block l.words n)
