-- Passes with no fault are all passes of the machine, and none has a turn or a link.
use Rattle.std.proofs.Common.{◌≡◌, inl, inr, ℕ, zero, suc, ◌+◌, ◌-◌, ◌<◌, ◌≤◌, ◌==◌, ◌&&◌, ◌||◌, List, [], ◌∷◌, length, Bool, true, false, not, Option, Some, None, option_map, cond, if◌then◌else◌, refl, ◌∙◌, ap, arith}
use Rattle.std.specs.List.{find, list_all, range_with_len}
use Rattle.std.proofs.lemmas.Bool.Decides.{nat_tests}
use Rattle.std.proofs.lemmas.List.{length-map}
use Rattle.eleos_core.specs.Parts.{Stamp}
use Rattle.eleos_plot.specs.Terms.{core_terms}
use Rattle.eleos_turn.specs.Closings.{AllDone, AllOf, HasNumber, IsWhole}
use Rattle.eleos_turn.specs.Hands.{links}
use Rattle.eleos_core.proofs.Tests.{by_test}
use Rattle.eleos_machine.specs.declared.closing.CloseWhy.{CloseWhy}
use Rattle.eleos_machine.specs.declared.closing.CloseWhy.TheVariants.{Missing, Foreign, Linked, Held}
use Rattle.eleos_machine.specs.Closing.{AllOfMachine, close_fault, first_with, hands_of, has_all, has_foreign, has_link, has_number, has_turn, idle_fault}
use Rattle.eleos_machine.specs.Machines.{Site}
use Rattle.eleos_machine.specs.Passes.{PassState}

-- the hands of a machine's passes are of its turnstile
pub hands_home : (z : Site) (ss : List PassState) → AllOfMachine z ss → AllOf z (hands_of ss)
hands_home z [] all = tt
hands_home z (s ∷ ss) all = (all.0, hands_home z ss all.1)

-- a pass with the number is found
number_found : (n : ℕ) (ss : List PassState) → has_number n ss ≡ true → HasNumber {D = Stamp} n (hands_of ss)
number_found n [] = λ e. cc
number_found n (s ∷ ss) = by_test (s.hand.number == n) (λ v. (s.hand.number == n) ≡ v → (v || has_number n ss) ≡ true → HasNumber {D = Stamp} n (hands_of (s ∷ ss)))
    (λ _ is e. inl (grind (arith, nat_tests)))
    (λ _ is e. inr (number_found n ss e)) refl

-- a test on each number of a range
in_range : (test : ℕ → Bool) (first count i : ℕ) → list_all test (range_with_len first count) ≡ true → i < count → test (first + i) ≡ true
in_range test first zero i e lt = absurd (omega (arith, lt))
in_range test first (suc count) zero e lt = ap test (omega arith) ∙ front (test first) _ e where
  front : (a b : Bool) → (a && b) ≡ true → a ≡ true
  front true b e = refl
  front false b e = cc
in_range test first (suc count) (suc i) e lt = ap test (omega arith) ∙ in_range test (first + 1) count i (back (test first) _ e) (omega (arith, lt)) where
  back : (a b : Bool) → (a && b) ≡ true → b ≡ true
  back true b e = e
  back false b e = cc

all_found : (n : ℕ) (ss : List PassState) → has_all n ss ≡ true → (k : ℕ) → 0 < k → k ≤ n → HasNumber {D = Stamp} k (hands_of ss)
all_found n ss e k some most = number_found k ss (ap (λ j. has_number j ss) (omega (arith, some)) ∙ in_range (λ i. has_number (i + 1) ss) 0 n (k - 1) e (omega (arith, some, most)))

-- what no pass is is not the first's
none_found : (test : PassState → Bool) (s : PassState) (ss : List PassState) → first_with test (s ∷ ss) ≡ None → (test s ≡ false) × (first_with test ss ≡ None)
none_found test s ss = by_test (test s) (λ v. test s ≡ v → option_map (λ (s : PassState). s.hand.number) (cond v (Some s) (find test ss)) ≡ None → (test s ≡ false) × (first_with test ss ≡ None))
    (λ _ is e. absurd (some_none s.hand.number e))
    (λ _ is e. (is, e)) refl
  where
    some_none : (n : ℕ) → Some n ≡ None → ⊥
    some_none n e = cc

-- the number 0 is no pass's
not_zero : (s : PassState) (ss : List PassState) → has_number 0 (s ∷ ss) ≡ false → (0 < s.hand.number) × (has_number 0 ss ≡ false)
not_zero s ss = by_test (s.hand.number == 0) (λ v. (s.hand.number == 0) ≡ v → (v || has_number 0 ss) ≡ false → (0 < s.hand.number) × (has_number 0 ss ≡ false))
    (λ _ is e. cc)
    (λ _ is e. (grind (arith, nat_tests), e)) refl

empty_of : {A : Type 0} (xs : List A) → not (length xs == 0) ≡ false → xs ≡ []
empty_of [] e = refl
empty_of (x ∷ xs) e = absurd (grind (arith, nat_tests))

no_link : (s : PassState) → 0 < s.hand.number → has_link s ≡ false → links core_terms s.hand ≡ []
no_link s made = by_test (s.hand.number == 0) (λ v. (s.hand.number == 0) ≡ v → (not v && not (length (links core_terms s.hand) == 0)) ≡ false → links core_terms s.hand ≡ [])
    (λ _ is e. absurd (grind (arith, nat_tests)))
    (λ _ is e. empty_of (links core_terms s.hand) e) refl

all_done : (ss : List PassState) → has_number 0 ss ≡ false → first_with has_link ss ≡ None → first_with has_turn ss ≡ None → AllDone core_terms (hands_of ss)
all_done [] made link turn = tt
all_done (s ∷ ss) made link turn =
    let z = not_zero s ss made in
    let l = none_found has_link s ss link in
    let t = none_found has_turn s ss turn in
    (record { made = z.0; turns = empty_of s.hand.turns t.0; links = no_link s z.0 l.0 }, all_done ss z.1 l.1 t.1)

-- passes without a fault
pub no_fault : (n : ℕ) (ss : List PassState) → close_fault n ss ≡ None → IsWhole core_terms n (hands_of ss)
no_fault n ss = by_test (has_all n ss) (λ v. has_all n ss ≡ v → (if v then (if has_foreign n ss then Some Foreign else idle_fault (first_with has_link ss) ss) else Some Missing) ≡ None → IsWhole core_terms n (hands_of ss))
    (λ _ all. by_test (has_foreign n ss) (λ v. has_foreign n ss ≡ v → (if v then Some Foreign else idle_fault (first_with has_link ss) ss) ≡ None → IsWhole core_terms n (hands_of ss))
    (λ _ is e. absurd (some_none Foreign e))
    (λ _ own e. idle all own (first_with has_link ss) refl e) refl)
    (λ _ is e. absurd (some_none Missing e)) refl
  where
    some_none : (why : CloseWhy) → Some why ≡ None → ⊥
    some_none why e = cc

    held : (o : Option ℕ) → option_map Held o ≡ None → o ≡ None
    held None e = refl
    held (Some who) e = absurd (some_none (Held who) e)

    counted : has_foreign n ss ≡ false → (length ss ≡ n) × (has_number 0 ss ≡ false)
    counted = by_test (length ss == n) (λ v. (length ss == n) ≡ v → (not v || has_number 0 ss) ≡ false → (length ss ≡ n) × (has_number 0 ss ≡ false))
        (λ _ is e. (grind (arith, nat_tests), e))
        (λ _ is e. cc) refl

    idle : has_all n ss ≡ true → has_foreign n ss ≡ false → (o : Option ℕ) → first_with has_link ss ≡ o → idle_fault o ss ≡ None → IsWhole core_terms n (hands_of ss)
    idle all own (Some who) link e = absurd (some_none (Linked who) e)
    idle all own None link e =
        let c = counted own in
        record {
          count = length-map ss (λ (s : PassState). s.hand) ∙ c.0;
          each = all_found n ss all;
          done = all_done ss c.1 link (held (first_with has_turn ss) e);
        }
