-- The key expansion begins with the key, and its front is what the cipher reads.
use Rattle.std.proofs.Common.{◌≡◌, ℕ, zero, suc, ◌+◌, ◌*◌, ◌/◌, ◌≤◌, List, [], ◌∷◌, ◌++◌, length, take, refl, sym, subst, ◌∙◌, ap, ap₂, arith, inl, inr}
use Rattle.std.proofs.lemmas.List.{take_all, take-take, take-append-le, append-nil, length_push}
use Rattle.std.proofs.Math.Seq.{take-add}
use Rattle.std.proofs.lemmas.Bool.{lt-ltb, cases_lt}
use Rattle.std.proofs.lemmas.Grind.{flat_map-append}
use Rattle.std.specs.List.{flat_map}
use Rattle.eleos_base.specs.AesKey.{IsKeyLength, key_word, word_after, first_words}
use Rattle.eleos_base.specs.AesCipher.{rounds, last_round, aes}
use Rattle.eleos_aes.specs.Expanded.{key_of, IsExpanded}
use Rattle.eleos_aes.proofs.States.{round_key-take, rounds-take}

-- a key is 4 to 8 whole words
pub key_sizes : (n : ℕ) → IsKeyLength n → (4 * (n / 4) ≡ n) × (4 ≤ n / 4) × (n / 4 ≤ 8)
key_sizes n is = elim is [
  | inl a ↦ (omega arith, omega arith, omega arith)
  | inr more ↦ elim more [
    | inl b ↦ (omega arith, omega arith, omega arith)
    | inr c ↦ (omega arith, omega arith, omega arith)
  ]
]

length-first_words : (key : List ℕ) (n : ℕ) → length (first_words key n) ≡ n
unfolding first_words
length-first_words key zero = refl
length-first_words key (suc n) =
    let before = first_words key n in
    omega (arith, length_push before (word_after key before n), length-first_words key n)

take-first_words : (key : List ℕ) (m n : ℕ) → n ≤ m → take n (first_words key m) ≡ first_words key n
unfolding first_words
take-first_words key zero n le =
    let none : n ≡ 0 = omega arith in
    rw none
take-first_words key (suc m) n le =
    let word = word_after key (first_words key m) m in
    elim (cases_lt n (suc m)) [
      | inl less ↦
          take-append-le n (first_words key m) (word ∷ []) (omega (arith, length-first_words key m))
          ∙ take-first_words key m n (omega arith)
      | inr more ↦
          let all : suc m ≡ n = omega arith in
          subst (λ j. take j (first_words key (suc m)) ≡ first_words key j) all
          (take_all (suc m) (first_words key (suc m)) (omega (arith, length-first_words key (suc m))))
    ]

-- the words of the key itself, one after another
flat-first_words : (key : List ℕ) (n : ℕ) → n ≤ length key / 4 → flat_map (λ word. word) (first_words key n) ≡ take (4 * n) key
unfolding first_words
flat-first_words key zero le = refl
flat-first_words key (suc n) le =
    let before = first_words key n in
    let word = word_after key before n in
    let own : word ≡ key_word key n = rw (lt-ltb n (length key / 4) (omega arith)) in
    let places : 4 * suc n ≡ 4 * n + 4 = omega arith in
    flat_map-append (λ w. w) before (word ∷ [])
    ∙ ap₂ ◌++◌ (flat-first_words key n (omega arith)) (append-nil word ∙ own)
    ∙ rw places (sym (take-add (4 * n) 4 key))

-- the key is read back from the words
pub key_of-expanded : (key : List ℕ) (words : List (List ℕ)) (k : ℕ) → 4 * k ≡ length key
    → take (4 * (k + 7)) words ≡ first_words key (4 * (k + 7)) → key_of k words ≡ key
unfolding key_of
key_of-expanded key words k size expanded =
    let m = 4 * (k + 7) in
    let front : take k words ≡ first_words key k =
    sym (take-take k m words (omega arith)) ∙ ap (take k) expanded ∙ take-first_words key m k (omega arith) in
    rw front (flat-first_words key k (omega arith) ∙ take_all (4 * k) key (omega arith))

-- words that begin with the expansion of a key of a good length are an expanded key
pub IsExpanded_from : (key : List ℕ) (words : List (List ℕ)) (k : ℕ) → k ≡ length key / 4 → IsKeyLength (length key)
    → take (4 * (k + 7)) words ≡ first_words key (4 * (k + 7)) → IsExpanded k words
IsExpanded_from key words k count is expanded =
    let sizes = key_sizes (length key) is in
    let same = key_of-expanded key words k (omega arith) expanded in
    record { key_length = rw same is; key_size = rw same (omega arith); expansion = rw same expanded }

-- the cipher by the words that an `Aes` keeps
pub aes_by_words : (k : ℕ) (words : List (List ℕ)) (block : List ℕ) → IsExpanded k words
    → last_round words (rounds words block (k + 5)) (k + 6) ≡ aes (key_of k words) block
unfolding aes
aes_by_words k words block is =
    let count : length (key_of k words) / 4 ≡ k = omega (arith, is.key_size) in
    let m = 4 * (k + 7) in
    rw (
      count,
      ← is.expansion,
      rounds-take words block m (k + 5) (omega arith),
      round_key-take words m (k + 6) (omega arith),
    )
