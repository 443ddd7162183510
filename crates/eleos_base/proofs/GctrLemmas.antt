-- GCTR is its own inverse, so that only one text opens from a ciphertext.
use Rattle.std.proofs.Common.{◌≡◌, ℕ, zero, suc, ◌*◌, ◌<◌, ◌≤◌, List, [], ◌∷◌, ◌++◌, length, take, drop, bit_xor, refl, sym, ◌∙◌, ap, ap₂, arith, inl, inr, length-append, length-take, length-drop, take-append-drop}
use Rattle.std.proofs.lemmas.List.{take_all, take_at, drop_at, append-nil, nil_from_length, drop_all}
use Rattle.std.proofs.lemmas.Bool.{cases_lt}
use Rattle.std.specs.Int.Bits.{xor_assoc, xor_self, xor_zero_r}
use Rattle.eleos_base.specs.AesState.{add_round_key}
use Rattle.eleos_base.specs.AesCipher.{aes}
use Rattle.eleos_base.specs.Gcm.{inc32, xor_front, gctr_blocks, block_count, gctr, pre_counter, ciphertext_of, OpensFrom}

-- an encrypted block has 16 bytes
pub length-aes : (key block : List ℕ) → length (aes key block) ≡ 16
unfolding aes add_round_key
length-aes key block = refl

xor_twice : (a b : ℕ) → bit_xor (bit_xor a b) b ≡ a
xor_twice a b = xor_assoc a b b ∙ ap (bit_xor a) (xor_self b) ∙ xor_zero_r a

-- a string plus a stream keeps its length where the stream is long enough
pub length-xor_front : (text stream : List ℕ) → length text ≤ length stream → length (xor_front text stream) ≡ length text
length-xor_front [] stream le = refl
length-xor_front (x ∷ text) [] le = absurd (omega arith)
length-xor_front (x ∷ text) (y ∷ stream) le = ap suc (length-xor_front text stream (omega arith))

-- and plus the same stream again it is what it was
xor_front_twice : (text stream : List ℕ) → length text ≤ length stream → xor_front (xor_front text stream) stream ≡ text
xor_front_twice [] stream le = refl
xor_front_twice (x ∷ text) [] le = absurd (omega arith)
xor_front_twice (x ∷ text) (y ∷ stream) le = ap₂ ◌∷◌ (xor_twice x y) (xor_front_twice text stream (omega arith))

-- the first block of a stream of blocks of which the later ones are there only if it is whole
front_of_blocks : (first rest : List ℕ) → length first ≤ 16 → (length first < 16 → rest ≡ []) → (take 16 (first ++ rest) ≡ first) × (drop 16 (first ++ rest) ≡ rest)
front_of_blocks first rest le short =
    elim (cases_lt (length first) 16) [
      | inl less ↦
          let none = short less in
          rw none (rw append-nil (take_all 16 first le), rw append-nil (drop_all 16 first le))
      | inr more ↦ (take_at first rest 16 (omega arith), drop_at first rest 16 (omega arith))
    ]

pub length-gctr_blocks : (key counter : List ℕ) (n : ℕ) (text : List ℕ) → length text ≤ 16 * n → length (gctr_blocks key counter n text) ≡ length text
unfolding gctr_blocks
length-gctr_blocks key counter zero text le = omega arith
length-gctr_blocks key counter (suc n) text le =
    let front = take 16 text in
    let behind = drop 16 text in
    let fits : length behind ≤ 16 * n = omega (arith, length-drop 16 text) in
    let stream = length-aes key counter in
    let first = length-xor_front front (aes key counter) (omega (arith, length-take 16 text)) in
    omega (
      arith,
      length-append (xor_front front (aes key counter)) (gctr_blocks key (inc32 counter) n behind),
      length-gctr_blocks key (inc32 counter) n behind fits,
      length-take 16 text,
      length-drop 16 text,
    )

gctr_blocks_twice : (key counter : List ℕ) (n : ℕ) (text : List ℕ) → length text ≤ 16 * n
    → gctr_blocks key counter n (gctr_blocks key counter n text) ≡ text
unfolding gctr_blocks
gctr_blocks_twice key counter zero text le = sym (nil_from_length text (omega arith))
gctr_blocks_twice key counter (suc n) text le =
    let front = take 16 text in
    let behind = drop 16 text in
    let stream = aes key counter in
    let first = xor_front front stream in
    let rest = gctr_blocks key (inc32 counter) n behind in
    let fits : length behind ≤ 16 * n = omega (arith, length-drop 16 text) in
    let enough : length front ≤ length stream = omega (arith, length-take 16 text, length-aes key counter) in
    let whole = length-xor_front front stream enough in
    let rest_len = length-gctr_blocks key (inc32 counter) n behind fits in
    let parts = front_of_blocks first rest (omega (arith, length-take 16 text))
    (λ short. nil_from_length rest (omega (arith, length-take 16 text, length-drop 16 text))) in
    rw (parts.0, parts.1)
    (ap₂ ◌++◌ (xor_front_twice front stream enough) (gctr_blocks_twice key (inc32 counter) n behind fits)
    ∙ take-append-drop 16 text)

-- a ciphertext is as long as its plaintext
pub length-ciphertext_of : (key nonce text : List ℕ) → length (ciphertext_of key nonce text) ≡ length text
unfolding ciphertext_of gctr
length-ciphertext_of key nonce text =
    length-gctr_blocks key (inc32 (pre_counter nonce)) (block_count (length text)) text (omega arith)

-- the ciphertext of the ciphertext is the plaintext
pub ciphertext_twice : (key nonce text : List ℕ) → ciphertext_of key nonce (ciphertext_of key nonce text) ≡ text
unfolding ciphertext_of gctr
ciphertext_twice key nonce text =
    let same = length-ciphertext_of key nonce text in
    rw same (gctr_blocks_twice key (inc32 (pre_counter nonce)) (block_count (length text)) text (omega arith))

-- only one text opens from a ciphertext
pub opens_once : (key nonce text other : List ℕ) → OpensFrom key nonce other (ciphertext_of key nonce text) → other ≡ text
opens_once key nonce text other opens =
    sym (ciphertext_twice key nonce other) ∙ ap (ciphertext_of key nonce) opens ∙ ciphertext_twice key nonce text
