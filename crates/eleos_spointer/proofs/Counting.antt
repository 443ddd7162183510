-- How many linked pointers stand on a page, after a change of one pointer.
use Rattle.std.proofs.Common.{◌≡◌, ◌≢◌, ℕ, suc, ◌+◌, ◌<◌, ◌==◌, ◌&&◌, List, [], ◌∷◌, length, get_or, set, Bool, true, false, cond, count_by, Option, Some, None, refl, sym, ◌∙◌, ap, subst, arith}
use mathlib.Core.Logic.{dite}
use native.Mathlib.Decide.{ℕ_discrete}
use Rattle.std.proofs.lemmas.Bool.{eq-eqb, ne_eqb}
use Rattle.std.proofs.lemmas.List.{get_or_past}
use Rattle.std.proofs.lemmas.List.Sums.{sum_by-cons, sum_by-set}
use Rattle.eleos_base.specs.declared.plan.Plan.{Plan}
use Rattle.eleos_machine.specs.declared.pointers.Pointer.{Pointer}
use Rattle.eleos_machine.specs.Pointers.{Puts, cell_under, is_linked_on, linked_in, pointer_in}

-- two lists whose items pass a test at the same places have as many items that pass it
count_same : {X : Type 0} (test : X → Bool) (d : X) → test d ≡ false → (xs ys : List X) → ((i : ℕ) → test (get_or ys i d) ≡ test (get_or xs i d)) → count_by test ys ≡ count_by test xs
count_same test d none [] [] same = refl
count_same test d none [] (y ∷ ys) same =
    let rest = count_same test d none [] ys (λ i. same (suc i)) in
    let here : ◌≡◌ {A = ℕ} (cond (test y) 1 0) 0 = ap {B = ℕ} (λ b. cond b 1 0) (same 0 ∙ none) in
    let e = sum_by-cons (λ x. cond (test x) 1 0) y ys in omega (arith, rest, here, e)
count_same test d none (x ∷ xs) [] same =
    let rest = count_same test d none xs [] (λ i. same (suc i)) in
    let here : ◌≡◌ {A = ℕ} (cond (test x) 1 0) 0 = ap {B = ℕ} (λ b. cond b 1 0) (sym (same 0) ∙ none) in
    let e = sum_by-cons (λ x. cond (test x) 1 0) x xs in omega (arith, rest, here, e)
count_same test d none (x ∷ xs) (y ∷ ys) same =
    let rest = count_same test d none xs ys (λ i. same (suc i)) in
    let here : ◌≡◌ {A = ℕ} (cond (test y) 1 0) (cond (test x) 1 0) = ap {B = ℕ} (λ b. cond b 1 0) (same 0) in
    let e = sum_by-cons (λ x. cond (test x) 1 0) y ys in
    let e' = sum_by-cons (λ x. cond (test x) 1 0) x xs in omega (arith, rest, here, e, e')

module _ (k : Plan) where
  -- a pointer without a link is linked on no page
  pub off : (c : ℕ) (pointer : Pointer) → pointer.is_linked ≡ false → is_linked_on k c (Some pointer) ≡ false
  off c pointer none = ap (λ b. b && cell_under k pointer == c) none

  -- a linked pointer is linked on its own page
  pub on_own : (pointer : Pointer) → pointer.is_linked ≡ true → is_linked_on k (cell_under k pointer) (Some pointer) ≡ true
  on_own pointer is = ap (λ b. b && cell_under k pointer == cell_under k pointer) is ∙ eq-eqb (cell_under k pointer) (cell_under k pointer) refl

  -- and on no other
  pub on_other : (c : ℕ) (pointer : Pointer) → pointer.is_linked ≡ true → c ≢ cell_under k pointer → is_linked_on k c (Some pointer) ≡ false
  on_other c pointer is ne = ap (λ b. b && cell_under k pointer == c) is ∙ ne_eqb (cell_under k pointer) c (λ e. ne (sym e))

  -- a pointer without a link more changes no count
  pub linked_put : (c key : ℕ) (old new : List (Option Pointer)) (pointer : Pointer) → pointer_in old key ≡ None → Puts old new key (Some pointer) → pointer.is_linked ≡ false → linked_in k new c ≡ linked_in k old c
  linked_put c key old new pointer fresh puts none = count_same (is_linked_on k c) None refl old new (λ i. dite (ℕ_discrete i key)
      (λ e. ap (λ j. is_linked_on k c (pointer_in new j)) e ∙ (ap (is_linked_on k c) puts.changed ∙ (off c pointer none ∙ sym (ap (λ j. is_linked_on k c (pointer_in old j)) e ∙ ap (is_linked_on k c) fresh))))
      (λ ne. ap (is_linked_on k c) (puts.others i ne)))

  -- a key that has a pointer is one of the list
  pub key_within : (slots : List (Option Pointer)) (key : ℕ) (pointer : Pointer) → pointer_in slots key ≡ Some pointer → key < length slots
  key_within slots key pointer is = grind (arith, get_or_past)

  -- the counts before and after another stands in a pointer's place
  pub linked_set : (c key : ℕ) (slots : List (Option Pointer)) (pointer : Pointer) (now : Option Pointer) → pointer_in slots key ≡ Some pointer
      → linked_in k (set slots key now) c + cond (is_linked_on k c (Some pointer)) 1 0 ≡ linked_in k slots c + cond (is_linked_on k c now) 1 0
  linked_set c key slots pointer now is =
      subst (λ (x : Option Pointer). linked_in k (set slots key now) c + cond (is_linked_on k c x) 1 0 ≡ linked_in k slots c + cond (is_linked_on k c now) 1 0) is
      (sum_by-set (λ x. cond (is_linked_on k c x) 1 0) slots key now None (key_within slots key pointer is))

  -- where a linked pointer stands there is one
  pub linked_some : (key : ℕ) (slots : List (Option Pointer)) (pointer : Pointer) → pointer_in slots key ≡ Some pointer → pointer.is_linked ≡ true → 0 < linked_in k slots (cell_under k pointer)
  linked_some key slots pointer is linked =
      let e = linked_set (cell_under k pointer) key slots pointer None is in
      let one : ◌≡◌ {A = ℕ} (cond (is_linked_on k (cell_under k pointer) (Some pointer)) 1 0) 1 = ap {B = ℕ} (λ b. cond b 1 0) (on_own pointer linked) in omega (arith, e, one)
