-- Sealing by GCM opens again.
use Rattle.std.proofs.Common.{ℕ, List}
use Rattle.eleos_base.proofs.GctrLemmas.{ciphertext_twice}
use Rattle.eleos_core.specs.Seals.{Opens, nonce_of, seals_by}

-- each block opens to one text, since the encryption is its own inverse
pub seals-open : (key : List ℕ) → Opens (seals_by key)
seals-open key = record {
  unseals = λ s v text. ciphertext_twice key (nonce_of s v) text;
  seals = λ s v block. ciphertext_twice key (nonce_of s v) block;
}
