-- The key expansion of AES (FIPS 197, 5.2). A word is four bytes.
use Rattle.std.specs.Prelude.{◌≡◌, ℕ, zero, suc, ◌-◌, ◌*◌, ◌/◌, ◌%◌, ◌&&◌, cond, eqb, ltb, List, [], ◌∷◌, ◌++◌, length, take, drop, slice_index, slice_index_or, bit_xor, ◌⊎◌}
use Rattle.eleos_base.specs.ByteField.{power}
use Rattle.eleos_base.specs.SBox.{s_box}

-- keys have 16, 24 or 32 bytes (5)
abbrev pub IsKeyLength : ℕ → Type 0
IsKeyLength n = (n ≡ 16) ⊎ ((n ≡ 24) ⊎ (n ≡ 32))

-- the word with its bytes turned left by one (5.2)
abbrev pub rot_word : List ℕ → List ℕ
rot_word w = slice_index w 1 ∷ slice_index w 2 ∷ slice_index w 3 ∷ slice_index w 0 ∷ []

-- the word with each byte by the S-box (5.2)
abbrev pub sub_word : List ℕ → List ℕ
sub_word w =
    s_box (slice_index w 0) ∷ s_box (slice_index w 1)
    ∷ s_box (slice_index w 2) ∷ s_box (slice_index w 3) ∷ []

-- the sum of two words
abbrev pub xor_word : List ℕ → List ℕ → List ℕ
xor_word v w =
    bit_xor (slice_index v 0) (slice_index w 0) ∷ bit_xor (slice_index v 1) (slice_index w 1)
    ∷ bit_xor (slice_index v 2) (slice_index w 2) ∷ bit_xor (slice_index v 3) (slice_index w 3) ∷ []

-- the round constant Rcon[j], from 1 on: x to the power j - 1, and zeros (5.2)
abbrev pub round_constant : ℕ → List ℕ
round_constant j = power 2 (j - 1) ∷ 0 ∷ 0 ∷ 0 ∷ []

-- what is added to word i - Nk, from the word before i; nk is the key's number of words, Nk (5.2)
unfoldable pub word_change : ℕ → ℕ → List ℕ → List ℕ
word_change nk i before =
    cond (eqb (i % nk) 0) (xor_word (sub_word (rot_word before)) (round_constant (i / nk)))
    (cond (ltb 6 nk && eqb (i % nk) 4) (sub_word before) before)

-- word i, from Nk on, after the words before it (5.2)
abbrev pub next_word : ℕ → List (List ℕ) → ℕ → List ℕ
next_word nk words i =
    xor_word (slice_index_or words (i - nk) []) (word_change nk i (slice_index_or words (i - 1) []))

-- word i of the key itself
abbrev pub key_word : List ℕ → ℕ → List ℕ
key_word key i = take 4 (drop (4 * i) key)

-- word i, after the words before it: the first Nk words are the key (5.2)
abbrev pub word_after : List ℕ → List (List ℕ) → ℕ → List ℕ
word_after key words i =
    cond (ltb i (length key / 4)) (key_word key i) (next_word (length key / 4) words i)

-- the first n words of the key expansion (5.2)
unfoldable pub first_words : List ℕ → ℕ → List (List ℕ)
first_words key zero = []
first_words key (suc n) = first_words key n ++ word_after key (first_words key n) n ∷ []
