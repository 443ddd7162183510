-- Lists that a frame leaves.
use Rattle.std.proofs.Common.{◌≡◌, ℕ, ◌+◌, ◌<◌, ◌≤◌, ◌==◌, List, [], ◌∷◌, ◌++◌, length, not, cond, nat_eq, get_or, refl, sym, ◌∙◌, ap, arith, length-append}
use Rattle.std.specs.List.{IsDistinct}
use Rattle.std.proofs.lemmas.Bool.{eq-eqb, eqb-false, eqb-true, ne_eqb}
use Rattle.eleos_base.specs.Ties.{Has}
use Rattle.eleos_core.proofs.Tests.{by_test}
use Rattle.eleos_turn.specs.Numbers.{times}
use Rattle.eleos_turn.proofs.Numbers.{times_here}
use Rattle.eleos_clock.proofs.Lists.{has_into}
use Rattle.eleos_clock.proofs.Once.{once_in}
use Rattle.eleos_balloon.specs.Lists.{without_frame}

-- a list without a number, and how often that stood in it
pub without_count : (f : ℕ) (list : List ℕ) → length (without_frame f list) + times f list ≡ length list
without_count f [] = refl
without_count f (g ∷ list) = let rest = without_count f list in by_test (g == f) (λ v. g == f ≡ v → length (cond (not v) (g ∷ without_frame f list) (without_frame f list)) + (cond (f == g) 1 0 + times f list) ≡ length (g ∷ list))
    (λ _ is. let one = ap {B = ℕ} (λ b. cond b 1 0) (eq-eqb f g (sym (eqb-true g f is))) in omega (arith, rest, one))
    (λ _ is. let none = ap {B = ℕ} (λ b. cond b 1 0) (ne_eqb f g (λ e. eqb-false g f is (sym e))) in omega (arith, rest, none)) refl

-- where it stood there once
pub fewer_without : (f : ℕ) (list : List ℕ) → IsDistinct nat_eq list → Has f list → length (without_frame f list) + 1 ≡ length list
fewer_without f list apart in_it = let a = without_count f list in let b = once_in f list apart in let c = has_into f list in_it in omega (arith, a, b, c)

-- how often a number stands in two lists one after the other
pub times_append : (g : ℕ) (xs ys : List ℕ) → times g (xs ++ ys) ≡ times g xs + times g ys
times_append g [] ys = omega arith
times_append g (x ∷ xs) ys = let rest = times_append g xs ys in omega (arith, rest)

-- one that does not stand there leaves nothing
without_none : (f : ℕ) (xs : List ℕ) → times f xs ≡ 0 → without_frame f xs ≡ xs
without_none f [] none = refl
without_none f (x ∷ xs) none = ap (λ b. cond (not b) (x ∷ without_frame f xs) (without_frame f xs)) (ne_eqb x f (λ is. let one = ap {B = ℕ} (λ b. cond b 1 0) (eq-eqb f x (sym is)) in omega (arith, one, none)))
    ∙ ap (λ ys. x ∷ ys) (without_none f xs (omega (arith, none)))

without_append : (f : ℕ) (xs ys : List ℕ) → without_frame f (xs ++ ys) ≡ without_frame f xs ++ without_frame f ys
without_append f [] ys = refl
without_append f (x ∷ xs) ys = let rest = without_append f xs ys in by_test (x == f) (λ v. cond (not v) (x ∷ without_frame f (xs ++ ys)) (without_frame f (xs ++ ys)) ≡ cond (not v) (x ∷ without_frame f xs) (without_frame f xs) ++ without_frame f ys)
    (λ _. rest) (λ _. ap (λ zs. x ∷ zs) rest)

-- the list in two parts, between which the number stood
pub without_split : (f : ℕ) (xs front rest : List ℕ) → xs ≡ front ++ f ∷ rest → times f xs ≤ 1 → without_frame f xs ≡ front ++ rest
without_split f xs front rest is once = ap (without_frame f) is ∙ (without_append f front (f ∷ rest) ∙ (λ i. without_none f front (omega (arith, a, b, c, once)) i ++ here i))
  where
    a : times f xs ≡ times f (front ++ f ∷ rest)
    a = ap (times f) is

    b : times f (front ++ f ∷ rest) ≡ times f front + times f (f ∷ rest)
    b = times_append f front (f ∷ rest)

    c : times f (f ∷ rest) ≡ times f rest + 1
    c = let h = times_here f rest in omega (arith, h)

    here : without_frame f (f ∷ rest) ≡ rest
    here = ap (λ v. cond (not v) (f ∷ without_frame f rest) (without_frame f rest)) (eq-eqb f f refl) ∙ without_none f rest (omega (arith, a, b, c, once))

-- what stands behind the first numbers of a list
get_behind : (front : List ℕ) (g : ℕ) (rest : List ℕ) → get_or (front ++ g ∷ rest) (length front) 0 ≡ g
get_behind [] g rest = refl
get_behind (x ∷ front) g rest = get_behind front g rest

pub behind : (xs front left : List ℕ) → xs ≡ front ++ left → length front < length xs → (rest : List ℕ) × (xs ≡ front ++ get_or xs (length front) 0 ∷ rest)
behind xs front [] is more = absurd (let a = ap length is in let b = length-append front [] in omega (arith, a, b, more))
behind xs front (g ∷ rest) is more = (rest, is ∙ ap (λ h. front ++ h ∷ rest) (sym (ap (λ ys. get_or ys (length front) 0) is ∙ get_behind front g rest)))
