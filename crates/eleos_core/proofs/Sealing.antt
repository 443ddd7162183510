-- What an unsealed block is.
use Rattle.std.proofs.Common.{◌≡◌, ℕ, List, sym, ◌∙◌, ap}
use Rattle.eleos_base.specs.Gcm.{OpensFrom, ciphertext_of}
use Rattle.eleos_base.proofs.GctrLemmas.{ciphertext_twice}

-- the text that opens from a block is the block's own ciphertext
pub opened_is : (key nonce text block : List ℕ) → OpensFrom key nonce text block → text ≡ ciphertext_of key nonce block
opened_is key nonce text block opens = sym (ciphertext_twice key nonce text) ∙ ap (ciphertext_of key nonce) opens
