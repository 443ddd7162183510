-- Authenticated encryption by GCM with AES (SP 800-38D), with nonces of 12 bytes and tags of 16.
use Rattle.std.specs.Prelude.{◌≡◌, ℕ, zero, suc, ◌+◌, ◌-◌, ◌*◌, ◌/◌, ◌%◌, ◌^◌, List, [], ◌∷◌, ◌++◌, length, take, drop, replicate, bit_xor}
use Rattle.std.specs.Int.{w32, w64, from_be_bytes, to_be_bytes}
use Rattle.std.specs.Simd.Lanes.{zip2}
use Rattle.eleos_base.specs.AesCipher.{aes}
use Rattle.eleos_base.specs.Ghash.{ghash}

-- the counter block with one added to its last 32 bits, modulo 2^32 (6.2)
unfoldable pub inc32 : List ℕ → List ℕ
inc32 block = take 12 block ++ to_be_bytes w32 ((from_be_bytes w32 (drop 12 block) + 1) % 2 ^ 32)

-- the sum of a string with as many of the first bytes of another (6.5, step 6)
abbrev pub xor_front : List ℕ → List ℕ → List ℕ
xor_front text stream = zip2 bit_xor text (take (length text) stream)

-- the first n blocks of a string, the last of which may be short, each plus its encrypted counter
-- block (6.5)
unfoldable pub gctr_blocks : List ℕ → List ℕ → ℕ → List ℕ → List ℕ
gctr_blocks key counter zero text = []
gctr_blocks key counter (suc n) text =
    xor_front (take 16 text) (aes key counter) ++ gctr_blocks key (inc32 counter) n (drop 16 text)

-- how many blocks a string of n bytes has, with a short one at its end
abbrev pub block_count : ℕ → ℕ
block_count n = (n + 15) / 16

-- GCTR of a string from the first counter block on (6.5)
unfoldable pub gctr : List ℕ → List ℕ → List ℕ → List ℕ
gctr key counter text = gctr_blocks key counter (block_count (length text)) text

-- the hash subkey H: the encrypted zero block (7.1, step 1)
unfoldable pub hash_subkey : List ℕ → List ℕ
hash_subkey key = aes key (replicate 16 0)

-- the pre-counter block J0 (7.1, step 2)
unfoldable pub pre_counter : List ℕ → List ℕ
pre_counter nonce = nonce ++ 0 ∷ 0 ∷ 0 ∷ 1 ∷ []

-- a string with the fewest zeros that make its blocks whole (7.1, steps 4 and 5)
abbrev pub padded : List ℕ → List ℕ
padded bytes = bytes ++ replicate (16 * block_count (length bytes) - length bytes) 0

-- the lengths of the aad and of the ciphertext in bits, in 8 bytes each, high byte first (7.1,
-- step 5)
abbrev pub lengths : List ℕ → List ℕ → List ℕ
lengths aad ciphertext = to_be_bytes w64 (8 * length aad) ++ to_be_bytes w64 (8 * length ciphertext)

-- what is hashed for the tag (7.1, step 5)
abbrev pub hashed : List ℕ → List ℕ → List ℕ
hashed aad ciphertext = padded aad ++ padded ciphertext ++ lengths aad ciphertext

-- the ciphertext of a plaintext (7.1, step 3); the aad has no part in it
unfoldable pub ciphertext_of : List ℕ → List ℕ → List ℕ → List ℕ
ciphertext_of key nonce text = gctr key (inc32 (pre_counter nonce)) text

-- the tag of a ciphertext and its aad: 16 bytes (7.1, steps 5 and 6)
unfoldable pub tag_of : List ℕ → List ℕ → List ℕ → List ℕ → List ℕ
tag_of key nonce aad ciphertext =
    gctr key (pre_counter nonce) (ghash (hash_subkey key) (hashed aad ciphertext))

-- the plaintext opens from the ciphertext: it is the one that is encrypted to it
abbrev pub OpensFrom : List ℕ → List ℕ → List ℕ → List ℕ → Type 0
OpensFrom key nonce text ciphertext = ciphertext_of key nonce text ≡ ciphertext

-- only one text opens from the ciphertext of a text, so what was sealed unseals
abbrev pub OpensOnce : List ℕ → Type 0
OpensOnce key = (nonce text other : List ℕ)
    → OpensFrom key nonce other (ciphertext_of key nonce text) → other ≡ text
