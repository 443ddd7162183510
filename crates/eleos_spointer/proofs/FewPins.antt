-- A pass has no more pins than pointers.
use Rattle.std.proofs.Common.{◌≡◌, ℕ, ◌+◌, ◌<◌, ◌≤◌, List, [], ◌∷◌, length, Bool, true, false, cond, Option, Some, None, is_some, refl, sym, ◌∙◌, ap, subst, arith}
use mathlib.Core.Logic.{dite}
use native.Mathlib.Decide.{ℕ_discrete}
use Rattle.std.proofs.lemmas.List.Sums.{sum_by-cons}
use Rattle.eleos_base.specs.declared.plan.Plan.{Plan}
use Rattle.eleos_turn.specs.Numbers.{less_one, times}
use Rattle.eleos_turn.proofs.Numbers.{less_else, less_exact, less_here, times_has, times_here}
use Rattle.eleos_machine.specs.declared.pointers.Pointer.{Pointer}
use Rattle.eleos_machine.specs.Passes.{AreLinked, PassState, plan_of}
use Rattle.eleos_machine.specs.Pointers.{cell_under, is_linked_on, linked_in, pointers_in}
use Rattle.eleos_spointer.proofs.Counting.{off, on_other, on_own}

module _ (k : Plan) where
  -- a list in which each number stands as often as pointers are linked there is no longer than there are pointers
  few : (slots : List (Option Pointer)) (xs : List ℕ) → ((c : ℕ) → times c xs ≡ linked_in k slots c) → length xs ≤ pointers_in slots
  few [] [] same = (let none : 0 ≤ 0 = omega arith in none)
  few [] (x ∷ xs) same = absurd (let one = times_here x xs in let none = same x in omega (arith, one, none))
  few (None ∷ slots) xs same =
      let rest = few slots xs (λ c. let a = same c in let b = sum_by-cons (λ (o : Option Pointer). cond (is_linked_on k c o) 1 0) None slots in omega (arith, a, b)) in
      let more = sum_by-cons (λ (o : Option Pointer). cond (is_some o) 1 0) None slots in omega (arith, rest, more)
  few (Some pointer ∷ slots) xs same = by_link (λ ys held. few slots ys held) pointer.is_linked refl where
    head : (c : ℕ) → times c xs ≡ cond (is_linked_on k c (Some pointer)) 1 0 + linked_in k slots c
    head c = same c ∙ sum_by-cons (λ (o : Option Pointer). cond (is_linked_on k c o) 1 0) (Some pointer) slots

    one_more : pointers_in (Some pointer ∷ slots) ≡ 1 + pointers_in slots
    one_more = sum_by-cons (λ (o : Option Pointer). cond (is_some o) 1 0) (Some pointer) slots

    by_link : ((ys : List ℕ) → ((c : ℕ) → times c ys ≡ linked_in k slots c) → length ys ≤ pointers_in slots) → (b : Bool) → pointer.is_linked ≡ b → length xs ≤ pointers_in (Some pointer ∷ slots)
    by_link again false is =
        let rest = again xs (λ c. let a = head c in let b : ◌≡◌ {A = ℕ} (cond (is_linked_on k c (Some pointer)) 1 0) 0 = ap {B = ℕ} (λ v. cond v 1 0) (off k c pointer is) in omega (arith, a, b)) in
        let more = one_more in omega (arith, rest, more)
    by_link again true is =
        let here : ℕ = cell_under k pointer in
        let there : times here xs ≡ 1 + linked_in k slots here = head here ∙ ap {B = ℕ} (λ v. cond v 1 0 + linked_in k slots here) (on_own k pointer is) in
        let exact = less_exact here xs (times_has here xs (omega (arith, there))) in
        let rest = again (less_one here xs) (λ c. dite (ℕ_discrete c here)
        (λ e. let less = less_here here xs (omega (arith, there)) in
        subst (λ (d : ℕ). times d (less_one here xs) ≡ linked_in k slots d) (sym e) (omega (arith, less, there)))
        (λ ne. let a = less_else here c xs ne in let b = head c in let e : ◌≡◌ {A = ℕ} (cond (is_linked_on k c (Some pointer)) 1 0) 0 = ap {B = ℕ} (λ v. cond v 1 0) (on_other k c pointer is ne) in omega (arith, a, b, e))) in
        let more = one_more in omega (arith, exact, rest, more)

-- so it has few
pub few_pins : (s : PassState) → AreLinked s → pointers_in s.pointers ≤ 256 → length s.hand.pins < 16777216
few_pins s linked some = let at_most = few (plan_of s) s.pointers s.hand.pins linked.pins in omega (arith, at_most, some)
