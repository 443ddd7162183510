-- A text of vectors: what each line asks the ciphers, or the first bad line with its reason.
use Rattle.std.specs.Prelude.{ℕ, ◌+◌, List, [], ◌∷◌, length, Bool, ◌==◌, ◌&&◌, nat_le, Option, Some, None, Result, Ok, Err, codes, if◌then◌else◌}
use Rattle.std.specs.List.{slice_split}
use Rattle.eleos_texts.specs.declared.why.Why.{Why}
use Rattle.eleos_texts.specs.declared.why.Why.TheVariants.{TooLarge, Cut, Form, Range}
use Rattle.eleos_texts.specs.declared.why.Bad.{Bad}
use Rattle.eleos_texts.specs.Fields.{is, is_blank, is_newline, is_hex, bytes_in}
use Rattle.eleos_texts.specs.Fields.{is_key_length}
use Rattle.eleos_texts.specs.Texts.{most_text, ended}
use Rattle.eleos_texts.specs.Reasons.{unless, with_two, with_four, with_five, with_one_and_more, at_line, ◌>>=◌}
use Rattle.eleos_vectors.specs.declared.vector.Vector.{Vector}
use Rattle.eleos_vectors.specs.declared.vector.Vector.TheVariants.{Aes, Seal, Open}

-- bytes of an aad or of a text
abbrev pub most_bytes : ℕ
most_bytes = 1048576

-- bytes, where they are not too many for an aad or a text
abbrev pub short : List ℕ → Option (List ℕ)
short bytes = if nat_le (length bytes) most_bytes then Some bytes else None

-- bytes, where they are just so many
abbrev pub sized : ℕ → List ℕ → Option (List ℕ)
sized count bytes = if length bytes == count then Some bytes else None

-- bytes, where they are a key
abbrev pub keyed : List ℕ → Option (List ℕ)
keyed bytes = if is_key_length (length bytes) then Some bytes else None

-- the text says a key
abbrev pub says_key : List ℕ → Bool
says_key hex = is_key_length (length (bytes_in hex))

-- the text says just so many bytes
abbrev pub says : ℕ → List ℕ → Bool
says count hex = length (bytes_in hex) == count

-- the text says not too many bytes for an aad or a text
abbrev pub says_short : List ℕ → Bool
says_short hex = nat_le (length (bytes_in hex)) most_bytes

-- `aes KEY BLOCK`
abbrev pub aes_of : List (List ℕ) → Result Vector Why
aes_of = with_two (λ key block. unless (
    (is_hex key && is_hex block, Form)
    ∷ (says_key key && says 16 block, Range) ∷ [])
    (Aes (bytes_in key) (bytes_in block)))

-- `seal KEY NONCE AAD TEXT`
abbrev pub seal_of : List (List ℕ) → Result Vector Why
seal_of = with_four (λ key nonce aad text. unless (
    (is_hex key && is_hex nonce && is_hex aad && is_hex text, Form)
    ∷ (says_key key && says 12 nonce && says_short aad && says_short text, Range) ∷ [])
    (Seal (bytes_in key) (bytes_in nonce) (bytes_in aad) (bytes_in text)))

-- `open KEY NONCE AAD CIPHER TAG`
abbrev pub open_of : List (List ℕ) → Result Vector Why
open_of = with_five (λ key nonce aad ciphertext tag. unless (
    (is_hex key && is_hex nonce && is_hex aad && is_hex ciphertext && is_hex tag, Form)
    ∷ (says_key key && says 12 nonce && says_short aad && says_short ciphertext && says 16 tag, Range) ∷ [])
    (Open (bytes_in key) (bytes_in nonce) (bytes_in aad) (bytes_in ciphertext) (bytes_in tag)))

-- a line by its verb
abbrev pub vector_by : List ℕ → List (List ℕ) → Result Vector Why
vector_by verb args =
    if is (codes "aes") verb then aes_of args
    else if is (codes "seal") verb then seal_of args
    else if is (codes "open") verb then open_of args
    else Err Form

-- a line by its words
abbrev pub vector_of : List (List ℕ) → Result Vector Why
vector_of = with_one_and_more vector_by

-- the vectors of these lines, the first of which has this number
unfoldable pub vectors_of : ℕ → List (List ℕ) → Result (List Vector) Bad
vectors_of line [] = Err (record { line = line; why = Cut })
vectors_of line (text ∷ []) = Err (record { line = line; why = Cut })
vectors_of line (text ∷ next ∷ texts) = if is (codes "end") text then (ended (line + 1) (next ∷ texts) >>= λ _. Ok []) else do
  vector ← at_line line (vector_of (slice_split is_blank text))
  vectors ← vectors_of (line + 1) (next ∷ texts)
  Ok (vector ∷ vectors)

-- the vectors of a text
unfoldable pub vectors_in : List ℕ → Result (List Vector) Bad
vectors_in input = if nat_le (length input) most_text then vectors_of 1 (slice_split is_newline input) else Err (record { line = 0; why = TooLarge })
