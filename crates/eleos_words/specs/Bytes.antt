-- Bytes as they stand in words: eight in each, the first one highest.
use Rattle.std.specs.Prelude.{ℕ, zero, suc, ◌+◌, ◌*◌, ◌-◌, ◌/◌, List, [], ◌∷◌, ◌++◌, length, take, drop, slice_index}
use Rattle.std.specs.Int.{w64, from_be_bytes, to_be_bytes}

-- the eight bytes from this one on, zeros past the end
abbrev pub eight_from : List ℕ → ℕ → List ℕ
eight_from bytes i =
    slice_index bytes i ∷ slice_index bytes (i + 1) ∷ slice_index bytes (i + 2)
    ∷ slice_index bytes (i + 3) ∷ slice_index bytes (i + 4) ∷ slice_index bytes (i + 5)
    ∷ slice_index bytes (i + 6) ∷ slice_index bytes (i + 7) ∷ []

-- word j of the bytes
unfoldable pub word_in : List ℕ → ℕ → ℕ
word_in bytes j = from_be_bytes w64 (eight_from bytes (8 * j))

-- how many words so many bytes need
abbrev pub words_for : ℕ → ℕ
words_for count = (count + 7) / 8

-- the first words of the bytes
abbrev pub first_words : ℕ → List ℕ → List ℕ
first_words zero bytes = []
first_words (suc k) bytes = first_words k bytes ++ word_in bytes k ∷ []

-- all words of the bytes
abbrev pub words_of : List ℕ → List ℕ
words_of bytes = first_words (words_for (length bytes)) bytes

-- the eight bytes of a word, the highest first
unfoldable pub bytes_of_word : ℕ → List ℕ
bytes_of_word word = to_be_bytes w64 word

-- the bytes of words, one word after another
abbrev pub bytes_in : List ℕ → List ℕ
bytes_in [] = []
bytes_in (word ∷ words) = bytes_of_word word ++ bytes_in words

-- the bytes with those of a word put as its word j, as many as there is room for
abbrev pub with_word_at : List ℕ → ℕ → ℕ → List ℕ
with_word_at bytes j word =
    take (8 * j) bytes ++ take (length bytes - 8 * j) (bytes_of_word word)
    ++ drop (8 * j + 8) bytes
