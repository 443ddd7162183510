-- Two functions that agree at each of the first places, by a test that is computed.
use Rattle.std.proofs.Common.{◌≡◌, ℕ, zero, suc, ◌<◌, Bool, true, ◌&&◌, eqb, subst, arith, inl, inr}
use Rattle.std.proofs.lemmas.Bool.{and_parts, eqb-true, cases_eq}

-- the functions have the same value at each number below n
abbrev pub agree : (ℕ → ℕ) → (ℕ → ℕ) → ℕ → Bool
agree f g zero = true
agree f g (suc n) = eqb (f n) (g n) && agree f g n

-- where the test finds that two functions agree below n, they have the same value at each place below n
pub agree_at : (f g : ℕ → ℕ) (n : ℕ) → agree f g n ≡ true → (i : ℕ) → i < n → f i ≡ g i
agree_at f g zero test i below = absurd (omega arith)
agree_at f g (suc n) test i below =
    let parts = and_parts (eqb (f n) (g n)) (agree f g n) test in
    elim (cases_eq n i) [
      | inl same ↦ subst (λ j. f j ≡ g j) same (eqb-true (f n) (g n) parts.0)
      | inr other ↦ agree_at f g n parts.1 i (omega arith)
    ]
