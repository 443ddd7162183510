-- The passes with which the machine is closed: each has its number, and none has a link or a turn.
use Rattle.std.proofs.Common.{◌≡◌, ◌≢◌, ℕ, zero, suc, ◌+◌, ◌<◌, ◌≤◌, ◌==◌, cond, Bool, true, false, not, ◌&&◌, ◌||◌, List, [], ◌∷◌, ◌++◌, length, Option, Some, None, option_map, refl, sym, ap, ◌∙◌, subst, arith}
use mathlib.Core.Logic.{dite}
use Rattle.std.proofs.lemmas.Bool.Decides.{nat_tests}
use native.Mathlib.Decide.{ℕ_discrete}
use Rattle.std.specs.List.{find, list_all, range_with_len}
use Rattle.eleos_machine.specs.Closing.{close_fault, first_with, has_all, has_foreign, has_link, has_number, has_turn}
use Rattle.eleos_machine.specs.Passes.{PassState}
use Rattle.eleos_plot.specs.Terms.{core_terms}
use Rattle.eleos_turn.specs.Hands.{links}

-- the passes have the numbers above a, no link and no turn
abbrev pub AreFree : ℕ → List PassState → Type 0
AreFree a [] = Unit {0}
AreFree a (s ∷ ss) = (s.hand.number ≡ a + 1) × (links core_terms s.hand ≡ []) × (s.hand.turns ≡ []) × AreFree (a + 1) ss

-- two such lists of passes are one, where the second has the numbers behind those of the first
pub free_append : (a b : ℕ) (xs ys : List PassState) → b ≡ a + length xs → AreFree a xs → AreFree b ys → AreFree a (xs ++ ys)
free_append a b [] ys is x y = subst (λ (n : ℕ). AreFree n ys) (let e : b ≡ a = omega (arith, is) in e) y
free_append a b (s ∷ xs) ys is x y = (x.0, x.1, x.2, free_append (a + 1) b xs ys (omega (arith, is)) x.3 y)

is_eq : (a b : ℕ) → a ≡ b → (a == b) ≡ true
is_eq a b same = grind (arith, nat_tests)

not_eq : (a b : ℕ) → a ≢ b → (a == b) ≡ false
not_eq a b apart = grind (arith, nat_tests)

has_here : (a n : ℕ) (ss : List PassState) → AreFree a ss → a < n → n ≤ a + length ss → has_number n ss ≡ true
has_here a n [] f low high = absurd (omega (arith, low, high))
has_here a n (s ∷ ss) f low high = dite (ℕ_discrete n (a + 1))
    (λ e. ap (λ (b : Bool). b || has_number n ss) (is_eq s.hand.number n (f.0 ∙ sym e)))
    (λ ne. ap (λ (b : Bool). b || has_number n ss) (not_eq s.hand.number n (λ e. ne (sym e ∙ f.0))) ∙ has_here (a + 1) n ss f.3 (omega (arith, low, ne)) (omega (arith, high)))

not_here : (a n : ℕ) (ss : List PassState) → AreFree a ss → n ≤ a → has_number n ss ≡ false
not_here a n [] f low = refl
not_here a n (s ∷ ss) f low = let number = f.0 in ap (λ (b : Bool). b || has_number n ss) (not_eq s.hand.number n (λ e. omega (arith, e, number, low))) ∙ not_here (a + 1) n ss f.3 (omega (arith, low))

all_of : (ss : List PassState) (i m : ℕ) → ((k : ℕ) → i ≤ k → k < i + m → has_number (k + 1) ss ≡ true) → list_all (λ k. has_number (k + 1) ss) (range_with_len i m) ≡ true
all_of ss i zero each = refl
all_of ss i (suc m) each = ap (λ (b : Bool). b && list_all (λ k. has_number (k + 1) ss) (range_with_len (i + 1) m)) (each i (omega arith) (omega arith)) ∙ all_of ss (i + 1) m (λ k low high. each k (omega (arith, low)) (omega (arith, high)))

no_link : (a : ℕ) (ss : List PassState) → AreFree a ss → find has_link ss ≡ None
no_link a [] f = refl
no_link a (s ∷ ss) f = ap (λ (l : List ℕ). cond (not (s.hand.number == 0) && not (length l == 0)) (Some s) (find has_link ss)) f.1 ∙ (drop_false (not (s.hand.number == 0)) (Some s) (find has_link ss) ∙ no_link (a + 1) ss f.3) where
  drop_false : (b : Bool) (x y : Option PassState) → cond (b && false) x y ≡ y
  drop_false true x y = refl
  drop_false false x y = refl

no_turn : (a : ℕ) (ss : List PassState) → AreFree a ss → find has_turn ss ≡ None
no_turn a [] f = refl
no_turn a (s ∷ ss) f = ap (λ (l : List ℕ). cond (not (length l == 0)) (Some s) (find has_turn ss)) f.2 ∙ no_turn (a + 1) ss f.3

-- a machine is closed with all its passes where none has a link or a turn
pub no_fault : (n : ℕ) (ss : List PassState) → AreFree 0 ss → length ss ≡ n → close_fault n ss ≡ None
no_fault n ss f long =
    let all : has_all n ss ≡ true = all_of ss 0 n (λ k low high. has_here 0 (k + 1) ss f (omega arith) (omega (arith, high, long))) in
    let foreign : has_foreign n ss ≡ false = (λ i. not (is_eq (length ss) n long i) || not_here 0 0 ss f (omega arith) i) in
    let link : first_with has_link ss ≡ None = ap (option_map (λ (s : PassState). s.hand.number)) (no_link 0 ss f) in
    let turn : first_with has_turn ss ≡ None = ap (option_map (λ (s : PassState). s.hand.number)) (no_turn 0 ss f) in
    rw (all, foreign, link, turn) refl
