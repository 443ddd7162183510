-- A list without repeats has each number at most once.
use Rattle.std.proofs.Common.{◌≡◌, ℕ, zero, suc, ◌+◌, ◌<◌, ◌≤◌, ◌==◌, List, [], ◌∷◌, length, false, cond, nat_eq, get_or, refl, sym, ◌∙◌, ap, subst, arith}
use Rattle.std.specs.List.{AllByRecursion, IsDistinct}
use Rattle.std.proofs.lemmas.Bool.{eqb-true}
use Rattle.std.proofs.lemmas.Map.Keys.{IsDistinct-head, IsDistinct-tail}
use Rattle.eleos_core.proofs.Tests.{by_test}
use Rattle.eleos_turn.specs.Numbers.{times}

not_later : (g : ℕ) (xs : List ℕ) → AllByRecursion (λ y. nat_eq g y ≡ false) xs → times g xs ≡ 0
not_later g [] none = refl
not_later g (x ∷ xs) none = ap {B = ℕ} (λ b. cond b 1 0 + times g xs) none.0 ∙ (let rest = not_later g xs none.1 in omega (arith, rest))

-- a list without repeats has no number more than once
pub once_in : (g : ℕ) (xs : List ℕ) → IsDistinct nat_eq xs → times g xs ≤ 1
once_in g [] distinct = omega arith
once_in g (x ∷ xs) distinct = by_test (g == x) (λ v. g == x ≡ v → cond v 1 0 + times g xs ≤ 1)
    (λ _ is. let none = not_later g xs (subst (λ z. AllByRecursion (λ y. nat_eq z y ≡ false) xs) (sym (eqb-true g x is)) (IsDistinct-head nat_eq x xs distinct)) in omega (arith, none))
    (λ _ is. let rest = once_in g xs (IsDistinct-tail nat_eq x xs distinct) in omega (arith, rest)) refl

-- what stands inside a list does not depend on what is read past its end
pub same_default : (xs : List ℕ) (i d e : ℕ) → i < length xs → get_or xs i d ≡ get_or xs i e
same_default [] i d e lt = absurd (omega (arith, lt))
same_default (x ∷ xs) zero d e lt = refl
same_default (x ∷ xs) (suc i) d e lt = same_default xs i d e (omega (arith, lt))
