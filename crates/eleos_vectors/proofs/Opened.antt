-- What opens, as it is printed.
use Rattle.std.proofs.Common.{◌≡◌, ℕ, List, Bool, true, sym, ◌∙◌, ap, rules}
use Rattle.std.specs.Str.{bytes_eq}
use Rattle.std.proofs.lemmas.Slice.Eq.{bytes_eq-Decides}
use Rattle.std.specs.Bool.{Decides}
use Rattle.eleos_base.specs.Gcm.{ciphertext_of, tag_of, OpensFrom}
use Rattle.eleos_base.proofs.GctrLemmas.{ciphertext_twice}
use Rattle.eleos_texts.specs.Texts.{hex_text}
use Rattle.eleos_vectors.specs.Answers.{opened_text}

by_decides : (b : Bool) (P : Type 0) → Decides b P → P → b ≡ true
by_decides b P decides holds = search rules

passed : (tag other : List ℕ) → other ≡ tag → bytes_eq tag other ≡ true
passed tag other same = by_decides (bytes_eq tag other) (tag ≡ other) (bytes_eq-Decides tag other) (sym same)

-- the text of a ciphertext whose tag passes
pub opened_text-passes : (key nonce aad ciphertext tag old text shown : List ℕ) → old ≡ ciphertext → shown ≡ text → tag_of key nonce aad old ≡ tag → OpensFrom key nonce text old
    → hex_text shown ≡ opened_text key nonce aad ciphertext tag
opened_text-passes key nonce aad ciphertext tag old text shown same is passes opens =
    let passes : tag_of key nonce aad ciphertext ≡ tag = ap (λ c. tag_of key nonce aad c) (sym same) ∙ passes in
    let text_is : shown ≡ ciphertext_of key nonce ciphertext = is ∙ sym (ciphertext_twice key nonce text) ∙ ap (ciphertext_of key nonce) (opens ∙ same) in
    rw (passed tag (tag_of key nonce aad ciphertext) passes) (ap hex_text text_is)
