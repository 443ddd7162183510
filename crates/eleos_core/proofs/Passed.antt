-- A block that passed, in a sound history, is the one last sealed.
use Rattle.std.proofs.Common.{◌≡◌, ◌≢◌, ℕ, ◌==◌, List, [], ◌∷◌, Bool, true, false, filter, if◌then◌else◌, sym, ◌∙◌, ap, inl, inr, ⊎_elim, eq-eqb, ne_eqb}
use mathlib.Core.Logic.{dite}
use native.Mathlib.Decide.{ℕ_discrete}
use Rattle.eleos_base.specs.declared.plan.Plan.{Plan}
use Rattle.eleos_base.specs.Ties.{Has}
use Rattle.eleos_core.specs.Seals.{Seals}
use Rattle.eleos_core.specs.State.{History, block_for, last}
use Rattle.eleos_core.specs.Legal.{passed, judged, passes, failed_last, AreTrue}
use Rattle.eleos_core.proofs.Tests.{by_test}

-- a test of two numbers that are one, or are not
pub here : {A : Type 0} (c x : ℕ) (a b : A) → c ≡ x → (if c == x then a else b) ≡ a
here c x a b e = ap (λ (t : Bool). if t then a else b) (eq-eqb c x e)

-- it is the second branch where they are not one
pub apart : {A : Type 0} (c x : ℕ) (a b : A) → c ≢ x → (if c == x then a else b) ≡ b
apart c x a b ne = ap (λ (t : Bool). if t then a else b) (ne_eqb c x ne)

-- blocks of which one did not pass did not all pass
pub failed_not : (s : ℕ) (cs : List (List ℕ)) → failed_last s cs ≡ passed → ⊥
failed_not s [] e = cc
failed_not s (c ∷ cs) e = cc

module _ (k : Plan) (x : Seals) (past : History) where
  -- the block that came for a place, where all passed
  pub block-true : (ps : List ℕ) (cs : List (List ℕ)) → judged (passes k x past) ps cs ≡ passed → AreTrue k x past ps cs → (s : ℕ) → Has s ps → block_for ps cs s ≡ last k x past s
  block-true [] cs j a s h = absurd h
  block-true (p ∷ ps) [] j a s h = cc
  block-true (p ∷ ps) (c ∷ cs) j a s h =
      by_test (passes k x past p c) (λ v. (if v then judged (passes k x past) ps cs else failed_last p cs) ≡ passed → block_for (p ∷ ps) (c ∷ cs) s ≡ last k x past s)
      (λ e j'. dite (ℕ_discrete s p)
      (λ i. here s p c (block_for ps cs s) i ∙ (a.0 e ∙ ap (last k x past) (sym i)))
      (λ ne. apart s p c (block_for ps cs s) ne ∙ block-true ps cs j' a.1 s (⊎_elim (λ (i : s ≡ p). absurd (ne i)) (λ (i : Has s ps). i) h)))
      (λ e j'. absurd (failed_not p cs j')) j

-- what stands in a list and passes a test is among those taken from it
pub has-filter : (p : ℕ → Bool) (xs : List ℕ) (s : ℕ) → Has s xs → p s ≡ true → Has s (filter p xs)
has-filter p [] s h e = h
has-filter p (x ∷ xs) s h e = by_test (p x) (λ v. Has s (if v then x ∷ filter p xs else filter p xs))
    (λ _. ⊎_elim (λ (i : s ≡ x). inl i) (λ (i : Has s xs). inr (has-filter p xs s i e)) h)
    (λ no_is. ⊎_elim (λ (i : s ≡ x). let j : p s ≡ p x = ap p i in absurd (let z : true ≡ false = sym e ∙ (j ∙ no_is) in cc)) (λ (i : Has s xs). has-filter p xs s i e) h)

-- the place of an access that finds its page absent and its sub-page sealed
pub has-place : (t : ℕ → Bool) (b : Bool) (q s : ℕ) → q ≡ s → b ≡ false → t s ≡ true → Has s (if b then [] else filter t (q ∷ []))
has-place t true q s i e y = cc
has-place t false q s i e y = has-filter t (q ∷ []) s (inl (sym i)) y
