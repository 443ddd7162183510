-- Lists in which no item stands twice.
use Rattle.std.proofs.Common.{◌≡◌, ◌≢◌, List, [], ◌∷◌, ◌++◌, map}
use Rattle.std.specs.List.{AllByRecursion}
use Rattle.eleos_core.specs.Laws.{AreDifferent}

-- what holds of each item by what held
pub all_of : {A : Type 0} (P Q : A → Type 0) → ((a : A) → P a → Q a) → (xs : List A) → AllByRecursion P xs → AllByRecursion Q xs
all_of P Q f [] h = tt
all_of P Q f (x ∷ xs) h = (f x h.0, all_of P Q f xs h.1)

-- and by two things that held
pub all_of_both : {A : Type 0} (P Q R : A → Type 0) → ((a : A) → P a → Q a → R a) → (xs : List A) → AllByRecursion P xs → AllByRecursion Q xs → AllByRecursion R xs
all_of_both P Q R f [] h i = tt
all_of_both P Q R f (x ∷ xs) h i = (f x h.0 i.0, all_of_both P Q R f xs h.1 i.1)

-- what holds of each item of two lists
pub all_append : {A : Type 0} (P : A → Type 0) (xs ys : List A) → AllByRecursion P xs → AllByRecursion P ys → AllByRecursion P (xs ++ ys)
all_append P [] ys a b = b
all_append P (x ∷ xs) ys a b = (a.0, all_append P xs ys a.1 b)

-- two lists with no common item
pub AreDifferent_append : {A : Type 0} (xs ys : List A) → AreDifferent xs → AreDifferent ys → AllByRecursion (λ x. AllByRecursion (λ y. x ≢ y) ys) xs → AreDifferent (xs ++ ys)
AreDifferent_append [] ys a b apart = b
AreDifferent_append (x ∷ xs) ys a b apart = (all_append (λ y. x ≢ y) xs ys a.0 apart.0, AreDifferent_append xs ys a.1 b apart.1)

-- under a function that takes no two items of the kind to one value
module _ {A B : Type 0} (f : A → B) (P : A → Type 0) (one : (a b : A) → P a → P b → f a ≡ f b → a ≡ b) where
  apart_map : (x : A) (xs : List A) → P x → AllByRecursion P xs → AllByRecursion (λ y. x ≢ y) xs → AllByRecursion (λ y. f x ≢ y) (map f xs)
  apart_map x [] p ps apart = tt
  apart_map x (y ∷ ys) p ps apart = (λ same. apart.0 (one x y p ps.0 same), apart_map x ys p ps.1 apart.1)

  -- so no value stands twice among those of a list in which no item does
  pub AreDifferent_map : (xs : List A) → AllByRecursion P xs → AreDifferent xs → AreDifferent (map f xs)
  AreDifferent_map [] ps different = tt
  AreDifferent_map (x ∷ xs) ps different = (apart_map x xs ps.0 ps.1 different.0, AreDifferent_map xs ps.1 different.1)
