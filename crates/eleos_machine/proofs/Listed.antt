-- What holds of each item of a list holds of the one that a loop comes to.
use Rattle.std.proofs.Common.{◌≡◌, ℕ, zero, suc, ◌+◌, List, [], ◌∷◌, ◌++◌, map, refl, ap, subst}
use Rattle.std.specs.List.{AllByRecursion}
use Rattle.eleos_core.specs.Parts.{Part, Stamp}
use Rattle.eleos_plot.specs.declared.plot.Ground.{Ground}
use Rattle.eleos_turn.specs.Closings.{AllOf}
use Rattle.eleos_turn.specs.Hands.{HandState, Home, dealt}

among : {A : Type 0} (P : A → Type 0) (before : List A) (x : A) (rest : List A) → AllByRecursion P (before ++ x ∷ rest) → P x
among P [] x rest each = each.0
among P (y ∷ before) x rest each = among P before x rest each.1

-- what holds of each item of a list holds of the one between those before and those behind
pub one_of : {A : Type 0} (P : A → Type 0) (all before : List A) (x : A) (rest : List A) → all ≡ before ++ x ∷ rest → AllByRecursion P all → P x
one_of P all before x rest is each = among P before x rest (subst (AllByRecursion P) is each)

hand_among : (z : Home Part Ground) (before : List (HandState Stamp Part Ground)) (s : HandState Stamp Part Ground) (rest : List (HandState Stamp Part Ground)) → AllOf z (before ++ s ∷ rest) → s.home ≡ z
hand_among z [] s rest all = all.0
hand_among z (t ∷ before) s rest all = hand_among z before s rest all.1

-- a hand among those of a turnstile is of that turnstile
pub hand_of : (z : Home Part Ground) (all before : List (HandState Stamp Part Ground)) (s : HandState Stamp Part Ground) (rest : List (HandState Stamp Part Ground)) → all ≡ before ++ s ∷ rest → AllOf z all → s.home ≡ z
hand_of z all before s rest is each = hand_among z before s rest (subst (AllOf z) is each)

-- the items of a list with one more
pub map_more : {A B : Type 0} (f : A → B) (xs : List A) (x : A) → map f (xs ++ x ∷ []) ≡ map f xs ++ f x ∷ []
map_more f [] x = refl
map_more f (y ∷ xs) x = ap (λ ys. f y ∷ ys) (map_more f xs x)

-- the hands that a turnstile deals are of that turnstile
pub all_dealt : (z : Home Part Ground) (a n : ℕ) → AllOf {D = Stamp} z (dealt z a n)
all_dealt z a zero = tt
all_dealt z a (suc n) = (refl, all_dealt z (a + 1) n)
