-- Which slot holds how many bytes, and slots apart.
use Rattle.std.proofs.Common.{◌≡◌, ◌≢◌, ◌⊎◌, ⊎_elim, inl, inr, ℕ, ◌+◌, ◌*◌, ◌%◌, ◌<◌, ◌≤◌, Some, None, ◌∙◌, subst, arith, mul-le-mul_left}
use Rattle.std.proofs.lemmas.Bool.{cases_lt}
use Rattle.std.proofs.lemmas.Bool.Decides.{nat_tests}
use Rattle.eleos_base.specs.Own.{AreApart}
use Rattle.eleos_sslab.specs.declared.size.SlotSize.{SlotSize}
use Rattle.eleos_sslab.specs.declared.size.SlotSize.TheVariants.{Bytes32, Bytes64, Bytes128, Bytes256, Bytes512}
use Rattle.eleos_sslab.specs.Sizes.{size_for, slot_bytes, slot_count}

pub for_none : (n : ℕ) → n < 1 → None ≡ size_for n
unfolding size_for
for_none n h = grind (arith, nat_tests)

pub for_32 : (n : ℕ) → 1 ≤ n → n ≤ 32 → Some Bytes32 ≡ size_for n
unfolding size_for
for_32 n h k = grind (arith, nat_tests)

pub for_64 : (n : ℕ) → 33 ≤ n → n ≤ 64 → Some Bytes64 ≡ size_for n
unfolding size_for
for_64 n h k = grind (arith, nat_tests)

pub for_128 : (n : ℕ) → 65 ≤ n → n ≤ 128 → Some Bytes128 ≡ size_for n
unfolding size_for
for_128 n h k = grind (arith, nat_tests)

pub for_256 : (n : ℕ) → 129 ≤ n → n ≤ 256 → Some Bytes256 ≡ size_for n
unfolding size_for
for_256 n h k = grind (arith, nat_tests)

pub for_512 : (n : ℕ) → 257 ≤ n → n ≤ 512 → Some Bytes512 ≡ size_for n
unfolding size_for
for_512 n h k = grind (arith, nat_tests)

pub for_more : (n : ℕ) → 513 ≤ n → None ≡ size_for n
unfolding size_for
for_more n h = grind (arith, nat_tests)

-- a size that was found holds the object, which has a byte at least
pub fits_in : (n : ℕ) (size : SlotSize) → size_for n ≡ Some size → (1 ≤ n) × (n ≤ slot_bytes size)
fits_in n size e = at_one (cases_lt n 1)
  where
    as_is : (n : ℕ) (a : SlotSize) (size : SlotSize) → 1 ≤ n → n ≤ slot_bytes a → Some a ≡ size_for n → size_for n ≡ Some size → (1 ≤ n) × (n ≤ slot_bytes size)
    as_is n a size some most f e = let same : Some a ≡ Some size = f ∙ e in let s : a ≡ size = cc in (some, subst (λ (z : SlotSize). n ≤ slot_bytes z) s most)

    no_size : {P : Type 0} (n : ℕ) (size : SlotSize) → None ≡ size_for n → size_for n ≡ Some size → P
    no_size n size f e = let same : None ≡ Some size = f ∙ e in absurd (cc)

    at_512 : (n < 513) ⊎ (513 ≤ n) → 257 ≤ n → (1 ≤ n) × (n ≤ slot_bytes size)
    at_512 (inl h) k = as_is n Bytes512 size (omega arith) (omega arith) (for_512 n k (omega arith)) e
    at_512 (inr h) k = no_size n size (for_more n h) e

    at_256 : (n < 257) ⊎ (257 ≤ n) → 129 ≤ n → (1 ≤ n) × (n ≤ slot_bytes size)
    at_256 (inl h) k = as_is n Bytes256 size (omega arith) (omega arith) (for_256 n k (omega arith)) e
    at_256 (inr h) k = at_512 (cases_lt n 513) h

    at_128 : (n < 129) ⊎ (129 ≤ n) → 65 ≤ n → (1 ≤ n) × (n ≤ slot_bytes size)
    at_128 (inl h) k = as_is n Bytes128 size (omega arith) (omega arith) (for_128 n k (omega arith)) e
    at_128 (inr h) k = at_256 (cases_lt n 257) h

    at_64 : (n < 65) ⊎ (65 ≤ n) → 33 ≤ n → (1 ≤ n) × (n ≤ slot_bytes size)
    at_64 (inl h) k = as_is n Bytes64 size (omega arith) (omega arith) (for_64 n k (omega arith)) e
    at_64 (inr h) k = at_128 (cases_lt n 129) h

    at_32 : (n < 33) ⊎ (33 ≤ n) → 1 ≤ n → (1 ≤ n) × (n ≤ slot_bytes size)
    at_32 (inl h) k = as_is n Bytes32 size k (omega arith) (for_32 n k (omega arith)) e
    at_32 (inr h) k = at_64 (cases_lt n 65) h

    at_one : (n < 1) ⊎ (1 ≤ n) → (1 ≤ n) × (n ≤ slot_bytes size)
    at_one (inl h) = no_size n size (for_none n h) e
    at_one (inr h) = at_32 (cases_lt n 33) h

-- a slot ends within its block
pub slot_end : (size : SlotSize) (slot n : ℕ) → slot < slot_count size → n ≤ slot_bytes size → slot_bytes size * slot + n ≤ 1024
slot_end Bytes32 slot n h k = omega (arith, h, k)
slot_end Bytes64 slot n h k = omega (arith, h, k)
slot_end Bytes128 slot n h k = omega (arith, h, k)
slot_end Bytes256 slot n h k = omega (arith, h, k)
slot_end Bytes512 slot n h k = omega (arith, h, k)

-- and starts within it
pub slot_start : (size : SlotSize) (slot : ℕ) → slot < slot_count size → slot_bytes size * slot < 1024
slot_start Bytes32 slot h = omega (arith, h)
slot_start Bytes64 slot h = omega (arith, h)
slot_start Bytes128 slot h = omega (arith, h)
slot_start Bytes256 slot h = omega (arith, h)
slot_start Bytes512 slot h = omega (arith, h)

-- there are at most 32 slots of at most 512 bytes, and one at least
pub slot_most : (size : SlotSize) (slot : ℕ) → slot < slot_count size → slot < 32
slot_most Bytes32 slot h = omega (arith, h)
slot_most Bytes64 slot h = omega (arith, h)
slot_most Bytes128 slot h = omega (arith, h)
slot_most Bytes256 slot h = omega (arith, h)
slot_most Bytes512 slot h = omega (arith, h)

pub count_some : (size : SlotSize) → 0 < slot_count size
count_some Bytes32 = omega arith
count_some Bytes64 = omega arith
count_some Bytes128 = omega arith
count_some Bytes256 = omega arith
count_some Bytes512 = omega arith

pub bytes_most : (size : SlotSize) → slot_bytes size ≤ 512
bytes_most Bytes32 = omega arith
bytes_most Bytes64 = omega arith
bytes_most Bytes128 = omega arith
bytes_most Bytes256 = omega arith
bytes_most Bytes512 = omega arith

order_of : (s t : ℕ) → s ≢ t → (s < t) ⊎ (t < s)
order_of s t ne = grind arith

-- two slots of one block are apart
pub slots_apart : (base c s t n m : ℕ) → s ≢ t → n ≤ c → m ≤ c → AreApart (base + c * s) n (base + c * t) m
slots_apart base c s t n m ne h k = ⊎_elim
    (λ (lt : s < t). let le : s + 1 ≤ t = omega arith in let e : c * (s + 1) ≤ c * t = mul-le-mul_left c le in inl (omega (arith, e, h)))
    (λ (lt : t < s). let le : t + 1 ≤ s = omega arith in let e : c * (t + 1) ≤ c * s = mul-le-mul_left c le in inr (omega (arith, e, k)))
    (order_of s t ne)

-- slots of two blocks are apart
pub blocks_apart : (a b x y n m : ℕ) → a % 1024 ≡ 0 → b % 1024 ≡ 0 → a ≢ b → x + n ≤ 1024 → y + m ≤ 1024 → AreApart (a + x) n (b + y) m
blocks_apart a b x y n m wa wb ne h k = ⊎_elim
    (λ (lt : a < b). let far : a + 1024 ≤ b = omega arith in inl (omega arith))
    (λ (lt : b < a). let far : b + 1024 ≤ a = omega arith in inr (omega arith))
    (order_of a b ne)

-- a slot of a block that begins with a sub-page lies in that sub-page
pub in_one_sub : (a x n : ℕ) → a % 1024 ≡ 0 → x + n ≤ 1024 → 1 ≤ n → (a + x) % 1024 + n ≤ 1024
in_one_sub a x n whole end some = omega arith
