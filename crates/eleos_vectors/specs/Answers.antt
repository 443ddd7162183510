-- What the ciphers answer to vectors, as it is printed.
use Rattle.std.specs.Prelude.{◌≡◌, ℕ, List, [], ◌∷◌, ◌++◌, length, codes, if◌then◌else◌}
use Rattle.std.specs.List.{flat_map}
use Rattle.eleos_base.specs.AesCipher.{aes}
use Rattle.eleos_base.specs.Gcm.{ciphertext_of, tag_of}
use Rattle.eleos_texts.specs.Fields.{is}
use Rattle.eleos_texts.specs.Texts.{hex_text}
use Rattle.eleos_texts.specs.Texts.{end_text}
use Rattle.eleos_vectors.specs.declared.vector.Vector.{Vector}
use Rattle.eleos_vectors.specs.declared.vector.Vector.TheVariants.{Aes, Seal, Open}

-- a ciphertext, a blank and its tag
abbrev pub sealed_text : List ℕ → List ℕ → List ℕ → List ℕ → List ℕ
sealed_text key nonce aad ciphertext = hex_text ciphertext ++ 32 ∷ hex_text (tag_of key nonce aad ciphertext)

-- the text of a ciphertext whose tag passes; encrypting a ciphertext again gives its text
abbrev pub opened_text : List ℕ → List ℕ → List ℕ → List ℕ → List ℕ → List ℕ
opened_text key nonce aad ciphertext tag =
    if is (tag_of key nonce aad ciphertext) tag then hex_text (ciphertext_of key nonce ciphertext) else codes "fail"

-- the answer to a vector
abbrev pub vector_text : Vector → List ℕ
vector_text (Aes key block) = hex_text (aes key block)
vector_text (Seal key nonce aad text) = sealed_text key nonce aad (ciphertext_of key nonce text)
vector_text (Open key nonce aad ciphertext tag) = opened_text key nonce aad ciphertext tag

-- the line that answers a vector
abbrev pub answer_text : Vector → List ℕ
answer_text vector = vector_text vector ++ 10 ∷ []

-- a line for each vector, and `end N` with their number
abbrev pub answers_text : List Vector → List ℕ
answers_text vectors = flat_map answer_text vectors ++ end_text (length vectors)

-- the text answers the vectors
abbrev pub AnswersVectors : List Vector → List ℕ → Type 0
AnswersVectors vectors text = text ≡ answers_text vectors
