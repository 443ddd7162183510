-- The round keys that an `Aes` keeps in planes of bits.
use Rattle.std.specs.Prelude.{◌≡◌, ℕ, ◌<◌, List, [], slice_index, slice_index_or}
use Rattle.eleos_base.specs.AesCipher.{round_key}
use Rattle.eleos_base.specs.AesState.{state_of}
use Rattle.eleos_lanes.specs.Planes.{block_at, vectors}

-- the bytes of round key n, by columns
unfoldable pub key_block : List (List ℕ) → ℕ → List ℕ
key_block words n = state_of (λ r c. slice_index (slice_index_or (round_key words n) c []) r)

-- the planes of each round key hold it eight times
abbrev pub HasKeys : List (List ℕ) → List (List ℕ) → Type 0
HasKeys words keys = (n b : ℕ) → n < 15 → b < 8
    → block_at (vectors (slice_index_or keys n [])) b ≡ key_block words n
