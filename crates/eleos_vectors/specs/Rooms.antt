-- The bytes of the longest answers, by the shape of vectors.
use Rattle.std.specs.Prelude.{ℕ, ◌+◌, List, length, max}
use Rattle.std.specs.List.{sum_by}
use Rattle.eleos_texts.specs.Texts.{hex_length}
use Rattle.eleos_vectors.specs.declared.vector.Vector.{Vector}
use Rattle.eleos_vectors.specs.declared.vector.Vector.TheVariants.{Aes, Seal, Open}

-- the line of a ciphertext of so many bytes and its tag
abbrev pub sealed_room : ℕ → ℕ
sealed_room bytes = hex_length bytes + 34

-- the line of a text of so many bytes, or of `fail`
abbrev pub opened_room : ℕ → ℕ
opened_room bytes = max (hex_length bytes) 4 + 1

-- the line that answers a vector
abbrev pub answer_room : Vector → ℕ
answer_room (Aes key block) = 33
answer_room (Seal key nonce aad text) = sealed_room (length text)
answer_room (Open key nonce aad ciphertext tag) = opened_room (length ciphertext)

-- a line for each vector, and `end N` with the longest number
abbrev pub answers_room : List Vector → ℕ
answers_room vectors = sum_by answer_room vectors + 25
