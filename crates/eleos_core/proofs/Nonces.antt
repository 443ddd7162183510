-- A nonce tells its place and its version.
use Rattle.std.proofs.Common.{◌≡◌, ℕ, ◌<◌, ◌^◌, take, drop, sym, ◌∙◌, ap}
use Rattle.std.specs.Int.{w32, w64, from_be_bytes, to_be_bytes}
use Rattle.std.proofs.lemmas.Nat.{from_be_bytes-to_be_bytes_4, from_be_bytes-to_be_bytes_8}
use Rattle.eleos_core.specs.Seals.{nonce_of}

-- a place of 32 bits and a version of 64
pub record IsNumbered (sealing : ℕ × ℕ) : Type 0 where
  pub place : sealing.0 < 2 ^ 32
  pub version : sealing.1 < 2 ^ 64

place_bytes : (s v t w : ℕ) → nonce_of s v ≡ nonce_of t w → to_be_bytes w32 s ≡ to_be_bytes w32 t
unfolding nonce_of
place_bytes s v t w same = ap (take 4) same

version_bytes : (s v t w : ℕ) → nonce_of s v ≡ nonce_of t w → to_be_bytes w64 v ≡ to_be_bytes w64 w
unfolding nonce_of
version_bytes s v t w same = ap (drop 4) same

-- sealings under one nonce are one
pub nonce_of_inj : (a b : ℕ × ℕ) → IsNumbered a → IsNumbered b → nonce_of a.0 a.1 ≡ nonce_of b.0 b.1 → a ≡ b
nonce_of_inj a b fits fits' same =
    let place : a.0 ≡ b.0 = sym (from_be_bytes-to_be_bytes_4 a.0 fits.place) ∙ ap (from_be_bytes w32) (place_bytes a.0 a.1 b.0 b.1 same) ∙ from_be_bytes-to_be_bytes_4 b.0 fits'.place in
    let version : a.1 ≡ b.1 = sym (from_be_bytes-to_be_bytes_8 a.1 fits.version) ∙ ap (from_be_bytes w64) (version_bytes a.0 a.1 b.0 b.1 same) ∙ from_be_bytes-to_be_bytes_8 b.1 fits'.version in
    λ i. (place i, version i)
