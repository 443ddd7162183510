-- Bytes of eight bits.
use Rattle.std.proofs.Common.{◌≡◌, ℕ, zero, suc, ◌+◌, ◌-◌, ◌*◌, ◌/◌, ◌%◌, ◌^◌, ◌<◌, List, [], ◌∷◌, ◌++◌, length, get_or, bit_and, bit_xor, refl, subst, ap, ap₂, ◌∙◌, arith, inl, inr}
use Rattle.std.proofs.lemmas.Bool.{cases_lt}
use Rattle.std.proofs.lemmas.List.{get_or_append_left}
use Rattle.std.proofs.lemmas.Nat.{xor_mod, xor_shr, and_mod, and_shr}
use Rattle.std.specs.Int.{bit_at}
use Rattle.eleos_lanes.specs.Planes.{byte_of, lane_bit}

-- bits may be exchanged for the same
pub same_byte : {x0 x1 x2 x3 x4 x5 x6 x7 y0 y1 y2 y3 y4 y5 y6 y7 : ℕ}
    → x0 ≡ y0 → x1 ≡ y1 → x2 ≡ y2 → x3 ≡ y3 → x4 ≡ y4 → x5 ≡ y5 → x6 ≡ y6 → x7 ≡ y7
    → byte_of x0 x1 x2 x3 x4 x5 x6 x7 ≡ byte_of y0 y1 y2 y3 y4 y5 y6 y7
same_byte e0 e1 e2 e3 e4 e5 e6 e7 =
    ap₂ (λ a s. a + 2 * s) e0 (ap₂ (λ a s. a + 2 * s) e1 (ap₂ (λ a s. a + 2 * s) e2 (ap₂ (λ a s. a + 2 * s) e3
    (ap₂ (λ a s. a + 2 * s) e4 (ap₂ (λ a s. a + 2 * s) e5 (ap₂ (λ a s. a + 2 * s) e6 e7))))))

-- a bit of a sum is the sum of the two bits at its place
pub bit_xor_at : (a b i : ℕ) → bit_at (bit_xor a b) i ≡ bit_xor (bit_at a i) (bit_at b i)
bit_xor_at a b i = ap (λ x. x % 2) (xor_shr a b i) ∙ xor_mod (a / 2 ^ i) (b / 2 ^ i) 1

-- the same of the bits that two numbers have in common
pub bit_and_at : (a b i : ℕ) → bit_at (bit_and a b) i ≡ bit_and (bit_at a i) (bit_at b i)
bit_and_at a b i = ap (λ x. x % 2) (and_shr a b i) ∙ and_mod (a / 2 ^ i) (b / 2 ^ i) 1

-- the bits of a byte are those that it is made of
pub bits_of_byte : (x0 x1 x2 x3 x4 x5 x6 x7 : ℕ) → x0 < 2 → x1 < 2 → x2 < 2 → x3 < 2 → x4 < 2 → x5 < 2 → x6 < 2 → x7 < 2
    → let x = byte_of x0 x1 x2 x3 x4 x5 x6 x7 in
    (bit_at x 0 ≡ x0) × (bit_at x 1 ≡ x1) × (bit_at x 2 ≡ x2) × (bit_at x 3 ≡ x3)
    × (bit_at x 4 ≡ x4) × (bit_at x 5 ≡ x5) × (bit_at x 6 ≡ x6) × (bit_at x 7 ≡ x7)
bits_of_byte x0 x1 x2 x3 x4 x5 x6 x7 l0 l1 l2 l3 l4 l5 l6 l7 =
    (omega arith, omega arith, omega arith, omega arith, omega arith, omega arith, omega arith, omega arith)

-- what holds at each of eight places
pub below_eight : (P : ℕ → Type 0) → P 0 → P 1 → P 2 → P 3 → P 4 → P 5 → P 6 → P 7 → (n : ℕ) → n < 8 → P n
below_eight P p0 p1 p2 p3 p4 p5 p6 p7 zero below = p0
below_eight P p0 p1 p2 p3 p4 p5 p6 p7 (suc zero) below = p1
below_eight P p0 p1 p2 p3 p4 p5 p6 p7 (suc (suc zero)) below = p2
below_eight P p0 p1 p2 p3 p4 p5 p6 p7 (suc (suc (suc zero))) below = p3
below_eight P p0 p1 p2 p3 p4 p5 p6 p7 (suc (suc (suc (suc zero)))) below = p4
below_eight P p0 p1 p2 p3 p4 p5 p6 p7 (suc (suc (suc (suc (suc zero))))) below = p5
below_eight P p0 p1 p2 p3 p4 p5 p6 p7 (suc (suc (suc (suc (suc (suc zero)))))) below = p6
below_eight P p0 p1 p2 p3 p4 p5 p6 p7 (suc (suc (suc (suc (suc (suc (suc zero))))))) below = p7
below_eight P p0 p1 p2 p3 p4 p5 p6 p7 (suc (suc (suc (suc (suc (suc (suc (suc n)))))))) below = absurd (omega arith)

-- lists of sixteen
pub sixteen : (f g : ℕ → ℕ) → ((i : ℕ) → i < 16 → f i ≡ g i)
    → f 0 ∷ f 1 ∷ f 2 ∷ f 3 ∷ f 4 ∷ f 5 ∷ f 6 ∷ f 7 ∷ f 8 ∷ f 9 ∷ f 10 ∷ f 11 ∷ f 12 ∷ f 13 ∷ f 14 ∷ f 15 ∷ []
    ≡ g 0 ∷ g 1 ∷ g 2 ∷ g 3 ∷ g 4 ∷ g 5 ∷ g 6 ∷ g 7 ∷ g 8 ∷ g 9 ∷ g 10 ∷ g 11 ∷ g 12 ∷ g 13 ∷ g 14 ∷ g 15 ∷ []
sixteen f g same =
    ap₂ ◌∷◌ (same 0 (omega arith)) (ap₂ ◌∷◌ (same 1 (omega arith)) (ap₂ ◌∷◌ (same 2 (omega arith)) (ap₂ ◌∷◌ (same 3 (omega arith))
    (ap₂ ◌∷◌ (same 4 (omega arith)) (ap₂ ◌∷◌ (same 5 (omega arith)) (ap₂ ◌∷◌ (same 6 (omega arith)) (ap₂ ◌∷◌ (same 7 (omega arith))
    (ap₂ ◌∷◌ (same 8 (omega arith)) (ap₂ ◌∷◌ (same 9 (omega arith)) (ap₂ ◌∷◌ (same 10 (omega arith)) (ap₂ ◌∷◌ (same 11 (omega arith))
    (ap₂ ◌∷◌ (same 12 (omega arith)) (ap₂ ◌∷◌ (same 13 (omega arith)) (ap₂ ◌∷◌ (same 14 (omega arith)) (ap₂ ◌∷◌ (same 15 (omega arith)) refl)))))))))))))))

-- what holds at each of sixteen places
pub below_sixteen : (P : ℕ → Type 0) → P 0 → P 1 → P 2 → P 3 → P 4 → P 5 → P 6 → P 7
    → P 8 → P 9 → P 10 → P 11 → P 12 → P 13 → P 14 → P 15 → (n : ℕ) → n < 16 → P n
below_sixteen P p0 p1 p2 p3 p4 p5 p6 p7 p8 p9 p10 p11 p12 p13 p14 p15 n below =
    elim (cases_lt n 8) [
      | inl low ↦ below_eight P p0 p1 p2 p3 p4 p5 p6 p7 n low
      | inr high ↦
          let place : 8 + (n - 8) ≡ n = omega arith in
          subst P place (below_eight (λ m. P (8 + m)) p8 p9 p10 p11 p12 p13 p14 p15 (n - 8) (omega arith))
    ]

-- ---- lanes that change places

-- lane i of a vector whose lanes were taken from the places p 0 to p 15 of another
pub lane_of_swizzled : (v : List ℕ) (p : ℕ → ℕ) → length v ≡ 16 → ((i : ℕ) → i < 16 → p i < 16) → (i j : ℕ) → i < 16
    → let from : ℕ → ℕ = λ k. get_or (v ++ v) (p k) 0 in
    lane_bit (from 0 ∷ from 1 ∷ from 2 ∷ from 3 ∷ from 4 ∷ from 5 ∷ from 6 ∷ from 7
    ∷ from 8 ∷ from 9 ∷ from 10 ∷ from 11 ∷ from 12 ∷ from 13 ∷ from 14 ∷ from 15 ∷ []) i j
    ≡ lane_bit v (p i) j
lane_of_swizzled v p long within i j below =
    let own : (k : ℕ) → k < 16 → bit_at (get_or (v ++ v) (p k) 0) j ≡ bit_at (get_or v (p k) 0) j =
    λ k low. ap (λ x. bit_at x j) (get_or_append_left v v 0 (p k) (omega (arith, within k low))) in
    let from : ℕ → ℕ = λ k. get_or (v ++ v) (p k) 0 in
    below_sixteen
    (λ k. bit_at (get_or (from 0 ∷ from 1 ∷ from 2 ∷ from 3 ∷ from 4 ∷ from 5 ∷ from 6 ∷ from 7
    ∷ from 8 ∷ from 9 ∷ from 10 ∷ from 11 ∷ from 12 ∷ from 13 ∷ from 14 ∷ from 15 ∷ []) k 0) j
    ≡ bit_at (get_or v (p k) 0) j)
    (own 0 (omega arith)) (own 1 (omega arith)) (own 2 (omega arith)) (own 3 (omega arith))
    (own 4 (omega arith)) (own 5 (omega arith)) (own 6 (omega arith)) (own 7 (omega arith))
    (own 8 (omega arith)) (own 9 (omega arith)) (own 10 (omega arith)) (own 11 (omega arith))
    (own 12 (omega arith)) (own 13 (omega arith)) (own 14 (omega arith)) (own 15 (omega arith)) i below
