-- Digits of hex that are read are those that are printed, but that they may be capitals.
use Rattle.std.proofs.Common.{◌≡◌, ℕ, zero, suc, ◌+◌, ◌*◌, ◌/◌, ◌%◌, ◌<◌, List, [], ◌∷◌, length, map, Option, Some, None, inl, inr, Result, Ok, Err, Bool, true, false, ◌&&◌, eqb, cond, refl, sym, arith}
use Rattle.std.specs.Prelude.{IfOk}
use Rattle.std.specs.List.{slice_index}
use Rattle.std.specs.Char.{to_ascii_lowercase}
use Rattle.std.proofs.lemmas.Bool.{cases_lt}
use Rattle.std.proofs.lemmas.Bool.Decides.{nat_tests}
use Rattle.hex.specs.Hex.{◌>>=◌, decode_of, decode_pairs, pair_value, value_at, digit_or_error, hex_digit_value, encode_lower, encode_with, lower_digits}
use Rattle.hex.specs.declared.error.FromHexError.{FromHexError}
use Rattle.hex.specs.declared.error.FromHexError.TheVariants.{OddLength}
use Rattle.eleos_report.proofs.Plain.{and_first, and_second}

-- the text with small letters
abbrev pub lower : List ℕ → List ℕ
lower text = map to_ascii_lowercase text

-- numbers that the test finds equal are equal
pub eq_from : (a b : ℕ) → eqb a b ≡ true → a ≡ b
eq_from a b h = grind (arith, nat_tests)

-- the digit in small letters is that of its value
abbrev reads_as : ℕ → Option ℕ → Bool
reads_as c (Some v) = eqb (slice_index lower_digits v) (to_ascii_lowercase c)
reads_as c None = true

abbrev all_read_as : ℕ → Bool
all_read_as zero = true
all_read_as (suc n) = reads_as n (hex_digit_value n) && all_read_as n

read_as_at : (n c : ℕ) → all_read_as n ≡ true → c < n → reads_as c (hex_digit_value c) ≡ true
read_as_at zero c h lt = absurd (omega arith)
read_as_at (suc n) c h lt =
    elim (cases_lt c n) [
      | inl below ↦ read_as_at n c (and_second (reads_as n (hex_digit_value n)) (all_read_as n) h) below
      | inr top ↦
          let e : c ≡ n = omega arith in
          rw e (and_first (reads_as n (hex_digit_value n)) (all_read_as n) h)
    ]

small_digit : (c v : ℕ) → hex_digit_value c ≡ Some v → c < 103
small_digit c v h = grind (arith, nat_tests)

small_value : (c v : ℕ) → hex_digit_value c ≡ Some v → v < 16
small_value c v h = grind (arith, nat_tests)

glyph : (c v : ℕ) → hex_digit_value c ≡ Some v → to_ascii_lowercase c ≡ slice_index lower_digits v
glyph c v h =
    let passes = read_as_at 103 c refl (small_digit c v h) in
    let same = rw h at passes in
    sym (eq_from (slice_index lower_digits v) (to_ascii_lowercase c) same)

hex_step : {A B : Type 0} (P : A → Type 0) (Q : B → Type 0) (r : Result A FromHexError) (f : A → Result B FromHexError) → IfOk r P → ((x : A) → P x → IfOk (f x) Q) → IfOk (r >>= f) Q
hex_step P Q (Ok x) f p next = next x p
hex_step P Q (Err e) f p next = tt

value_is : (c i : ℕ) → IfOk (value_at c i) (λ v. hex_digit_value c ≡ Some v)
value_is c i = by (hex_digit_value c) refl where
  by : (o : Option ℕ) → hex_digit_value c ≡ o → IfOk (digit_or_error c i o) (λ v. hex_digit_value c ≡ Some v)
  by (Some v) e = e
  by None e = tt

-- the two digits of a byte
abbrev AreOf : ℕ → ℕ → ℕ → Type 0
AreOf a b byte = (to_ascii_lowercase a ≡ slice_index lower_digits (byte / 16)) × (to_ascii_lowercase b ≡ slice_index lower_digits (byte % 16))

pair_is : (a b i : ℕ) → IfOk (pair_value a b i) (AreOf a b)
pair_is a b i = hex_step (λ v. hex_digit_value a ≡ Some v) (AreOf a b) (value_at a i) _ (value_is a i) (λ h high.
    hex_step (λ v. hex_digit_value b ≡ Some v) (AreOf a b) (value_at b (i + 1)) _ (value_is b (i + 1)) (λ l low.
    let h_small = small_value a h high in
    let l_small = small_value b l low in
    let first : (h * 16 + l) / 16 ≡ h = omega arith in
    let second : (h * 16 + l) % 16 ≡ l = omega arith in (rw first (glyph a h high), rw second (glyph b l low))))

pairs_are : (i : ℕ) (text : List ℕ) → IfOk (decode_pairs i text) (λ bytes. lower text ≡ encode_lower bytes)
unfolding decode_pairs encode_with
pairs_are i [] = refl
pairs_are i (a ∷ []) = tt
pairs_are i (a ∷ b ∷ rest) = hex_step (AreOf a b) (λ bytes. lower (a ∷ b ∷ rest) ≡ encode_lower bytes) (pair_value a b i) _ (pair_is a b i) (λ byte digits.
    hex_step (λ bytes. lower rest ≡ encode_lower bytes) (λ bytes. lower (a ∷ b ∷ rest) ≡ encode_lower bytes) (decode_pairs (i + 2) rest) _ (pairs_are (i + 2) rest) (λ bytes same.
    rw (digits.0, digits.1, same) refl))

-- a text that decodes is the hex of its bytes, but that digits may be capitals
pub decoded_is : (text : List ℕ) → IfOk (decode_of text) (λ bytes. lower text ≡ encode_lower bytes)
decoded_is text = by (eqb (length text % 2) 1) where
  by : (b : Bool) → IfOk (cond b (Err OddLength) (decode_pairs 0 text)) (λ bytes. lower text ≡ encode_lower bytes)
  by true = tt
  by false = pairs_are 0 text
