-- Numbers and their bytes.
use Rattle.std.proofs.Common.{◌≡◌, ℕ, ◌<◌, ◌^◌, List, [], length, get_or, refl}
use Rattle.std.proofs.lemmas.Nat.{from_le_bytes-to_le_bytes_8, le_bytes_8}
use Rattle.eleos_base.specs.Own.{text_at}
use Rattle.eleos_sarray.specs.Arrays.{bytes_of, number_of}

-- a number is written in 8 bytes
pub length-bytes_of : (n : ℕ) → length (bytes_of n) ≡ 8
unfolding bytes_of
length-bytes_of n = refl

-- a number has the bytes that it was made of, and they make it again
pub number_back : (n : ℕ) → n < 2 ^ 64 → number_of (bytes_of n) ≡ n
unfolding bytes_of number_of
number_back n fits = from_le_bytes-to_le_bytes_8 n fits

-- 8 bytes are those of the number that they make
pub bytes_back : (bytes : List ℕ) (n : ℕ) → length bytes ≡ 8 → ((i : ℕ) → get_or bytes i 0 < 256) → n ≡ number_of bytes → bytes_of n ≡ bytes
unfolding bytes_of number_of
bytes_back bytes n eight small is = le_bytes_8 bytes n eight small is

-- eight zeros are the number 0
pub number_zero : (start : ℕ) → number_of (text_at (record { blocks = []; byte = λ _. 0 }) start 8) ≡ 0
unfolding number_of text_at
number_zero start = refl
