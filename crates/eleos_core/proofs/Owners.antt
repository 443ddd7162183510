-- Owners and their lists in std's words: a frame is in the list of its owner, and a list has no frame twice.
use Rattle.std.proofs.Common.{◌≡◌, ℕ, zero, suc, ◌+◌, ◌<◌, ◌≤◌, ◌==◌, List, [], ◌∷◌, length, Bool, true, false, if◌then◌else◌, Contains, nat_eq, get_or, refl, sym, subst, arith}
use Rattle.std.specs.List.{AllByRecursion, IsDistinct}
use Rattle.std.proofs.lemmas.Bool.{eq-eqb, eqb-true, cases_lt}
use Rattle.std.proofs.Common.{⊎_elim}
use Rattle.eleos_base.specs.declared.plan.Plan.{Plan}
use Rattle.eleos_base.specs.Places.{Owner, all_frames}
use Rattle.eleos_core.specs.Laws.{IsLegalRun, ListsAreOwned}
use Rattle.eleos_core.specs.Seals.{Seals, seals_by}
use Rattle.eleos_core.specs.State.{History, is_owner, owner, frames_of}
use Rattle.eleos_core.specs.Legal.{CoreRun}
use Rattle.eleos_core.proofs.Tests.{by_test}
use Rattle.eleos_core.proofs.Times.{times, one_if}
use Rattle.eleos_core.proofs.Shares.{owner_is, stands_once, once_at_owner}

contains_once : (g : ℕ) (fs : List ℕ) → 1 ≤ times g fs → Contains fs g
contains_once g [] one = absurd (omega arith)
contains_once g (f ∷ fs) one = by_test (g == f) (λ v. g == f ≡ v → 1 ≤ (if v then times g fs + 1 else times g fs) → Contains (f ∷ fs) g)
    (λ _ is more. (0, omega arith, sym (eqb-true g f is)))
    (λ _ is more. let rest = contains_once g fs more in (suc rest.0, (let lt = rest.1 in omega arith), rest.2)) refl one

times_at : (g : ℕ) (fs : List ℕ) (k : ℕ) → k < length fs → get_or fs k g ≡ g → 1 ≤ times g fs
times_at g [] k lt is = absurd (omega arith)
times_at g (f ∷ fs) zero lt is = subst (λ v. 1 ≤ (if v then times g fs + 1 else times g fs)) (sym (eq-eqb g f (sym is))) (omega arith)
times_at g (f ∷ fs) (suc k) lt is = let rest = times_at g fs k (omega arith) is in by_test (g == f) (λ v. 1 ≤ (if v then times g fs + 1 else times g fs)) (λ _. omega arith) (λ _. rest)

apart : (f : ℕ) (fs : List ℕ) → times f fs ≡ 0 → AllByRecursion (λ h. nat_eq f h ≡ false) fs
apart f [] none = tt
apart f (h ∷ fs) none = by_test (f == h) (λ v. f == h ≡ v → (if v then times f fs + 1 else times f fs) ≡ 0 → AllByRecursion (λ h. nat_eq f h ≡ false) (h ∷ fs))
    (λ _ is some. absurd (omega arith))
    (λ _ is rest. (is, apart f fs rest)) refl none

distinct : (fs : List ℕ) → ((g : ℕ) → times g fs ≤ 1) → IsDistinct nat_eq fs
unfolding IsDistinct
distinct [] once = tt
distinct (f ∷ fs) once =
    let here : times f fs + 1 ≤ 1 = subst (λ v. (if v then times f fs + 1 else times f fs) ≤ 1) (eq-eqb f f refl) (once f) in
    (apart f fs (omega arith), distinct fs (λ g. by_test (g == f) (λ v. (if v then times g fs + 1 else times g fs) ≤ 1 → times g fs ≤ 1) (λ _ le. omega arith) (λ _ le. le) (once g)))

at_most : (b : Bool) (n : ℕ) → n ≡ one_if b → n ≤ 1
at_most true n is = omega arith
at_most false n is = omega arith

some_owner : (b : Bool) (n : ℕ) → n ≡ one_if b → 1 ≤ n → b ≡ true
some_owner true n is some = refl
some_owner false n is some = absurd (omega arith)

module _ (k : Plan) (x : Seals) where
  -- each frame of the machine is in the list of its owner
  pub frame_listed : (h : History) → CoreRun k x h → (g : ℕ) → g < all_frames k → Contains (frames_of k h (owner k h g)) g
  frame_listed h run g lt = let one = once_at_owner k x h run g lt in contains_once g (frames_of k h (owner k h g)) (omega arith)

  -- a list has frames of the machine alone, each its owner's
  pub listed_is_owned : (h : History) → CoreRun k x h → (o : Owner) (g : ℕ) → Contains (frames_of k h o) g → (g < all_frames k) × (owner k h g ≡ o)
  listed_is_owned h run o g listed =
      let some = times_at g (frames_of k h o) listed.0 listed.1 listed.2 in
      ⊎_elim (λ (lt : g < all_frames k). (lt, owner_is (owner k h g) o (some_owner (is_owner (owner k h g) o) (times g (frames_of k h o)) ((stands_once k x h run g).within lt o) some)))
      (λ (le : all_frames k ≤ g). let none = (stands_once k x h run g).past_all le o in absurd (omega arith)) (cases_lt g (all_frames k))

  -- and none twice
  pub frames_distinct : (h : History) → CoreRun k x h → (o : Owner) → IsDistinct nat_eq (frames_of k h o)
  frames_distinct h run o = distinct (frames_of k h o) (λ g. ⊎_elim (λ (lt : g < all_frames k). at_most (is_owner (owner k h g) o) (times g (frames_of k h o)) ((stands_once k x h run g).within lt o))
      (λ (le : all_frames k ≤ g). let none = (stands_once k x h run g).past_all le o in omega arith) (cases_lt g (all_frames k)))

-- the owners' lists after every legal history
pub lists_owned : (k : Plan) (key : List ℕ) (h : History) → IsLegalRun k key h → ListsAreOwned k h
lists_owned k key h run = record {
  frames = λ o g listed. (listed_is_owned k (seals_by key) h run.legal o g listed).0;
  owned = λ o g listed. (listed_is_owned k (seals_by key) h run.legal o g listed).1;
  listed = frame_listed k (seals_by key) h run.legal;
  once = frames_distinct k (seals_by key) h run.legal;
}
