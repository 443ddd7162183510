-- How sub-pages are sealed. A sealing is of a place, at a version: the number of the place's sealings with it.
use Rattle.std.specs.Prelude.{◌≡◌, ℕ, List, [], ◌++◌}
use Rattle.std.specs.Int.{w32, w64, to_be_bytes}
use Rattle.eleos_base.specs.Gcm.{ciphertext_of, tag_of}

-- what sealing does with the bytes of a place at a version
pub record Seals : Type 0 where
  -- the block that goes to the host
  pub seal : ℕ → ℕ → List ℕ → List ℕ
  -- the text that opens from a block
  pub unseal : ℕ → ℕ → List ℕ → List ℕ
  -- the tag of a block
  pub tag : ℕ → ℕ → List ℕ → List ℕ

-- each block opens to one text, and what was sealed opens to its text
pub record Opens (x : Seals) : Type 0 where
  pub unseals : (s v : ℕ) (text : List ℕ) → x.unseal s v (x.seal s v text) ≡ text
  pub seals : (s v : ℕ) (block : List ℕ) → x.seal s v (x.unseal s v block) ≡ block

-- the nonce of a sealing: the place in 4 bytes and the version in 8, high byte first
unfoldable pub nonce_of : ℕ → ℕ → List ℕ
nonce_of s v = to_be_bytes w32 s ++ to_be_bytes w64 v

-- sealing by GCM under a key, without associated data. Its encryption is its own inverse.
abbrev pub seals_by : List ℕ → Seals
seals_by key = record {
  seal = λ s v text. ciphertext_of key (nonce_of s v) text;
  unseal = λ s v block. ciphertext_of key (nonce_of s v) block;
  tag = λ s v block. tag_of key (nonce_of s v) [] block;
}
