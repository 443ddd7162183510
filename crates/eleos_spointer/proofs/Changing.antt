-- What holds of a pass's pointers after one of them became another, or was added.
use Rattle.std.proofs.Common.{◌≡◌, ◌≢◌, ℕ, ◌+◌, ◌<◌, List, set, Bool, true, false, cond, Option, Some, None, IfSome, unwrap_or, refl, sym, ◌∙◌, ap, subst, arith}
use mathlib.Core.Logic.{dite}
use native.Mathlib.Decide.{ℕ_discrete}
use Rattle.std.proofs.lemmas.List.{get_or-set_other, get_or-set_same}
use Rattle.eleos_base.specs.declared.plan.Plan.{Plan}
use Rattle.eleos_base.specs.Plans.{IsCaller, enclave_of}
use Rattle.eleos_plot.specs.Terms.{core_terms}
use Rattle.eleos_turn.specs.Hands.{links_on}
use Rattle.eleos_turn.specs.Numbers.{less_one, times}
use Rattle.eleos_turn.proofs.Numbers.{less_else, less_here}
use Rattle.eleos_machine.specs.declared.pointers.Pointer.{Pointer}
use Rattle.eleos_machine.specs.declared.pointers.SpId.{SpId}
use Rattle.eleos_machine.specs.Machines.{Site, plan_at}
use Rattle.eleos_machine.specs.Passes.{AreLinked, IsLawful, PassState, linked_on, plan_of, pointer_of}
use Rattle.eleos_machine.specs.Pointers.{cell_under, is_linked_on, linked_in, page_under, pointer_in}
use Rattle.eleos_spointer.specs.Changes.{Becomes, HasAdded, LetsGo, MayBecome}
use Rattle.eleos_spointer.specs.Ranges.{ArePointers, IsPointer, home_of}
use Rattle.eleos_spointer.specs.Unlinked.{Unlinks}
use Rattle.eleos_spointer.proofs.Counting.{key_within, linked_put, linked_set, linked_some, on_other, on_own}

-- a pass with other pointers alone has seen a legal history still
pub lawful_same : (s s' : PassState) → s' ≡ record s { pointers = s'.pointers } → IsLawful s → IsLawful s'
lawful_same s s' rest law = subst IsLawful (sym rest) (record { machine = law.machine; hand = law.hand; run = law.run })

-- what was let go left the machine and the number as they were
goes_home : (s s' : PassState) (page : ℕ) (leaves : Bool) → LetsGo s page leaves s' → (s'.hand.home ≡ s.hand.home) × (s'.hand.number ≡ s.hand.number)
goes_home s s' page true gone = (gone.goes.home, gone.goes.number)
goes_home s s' page false same = (ap (λ (y : PassState). y.hand.home) same, ap (λ (y : PassState). y.hand.number) same)

-- and the pass has seen a legal history still
goes_lawful : (s s' : PassState) (page : ℕ) (leaves : Bool) → IsLawful s → LetsGo s page leaves s' → IsLawful s'
goes_lawful s s' page true law gone = gone.lawful
goes_lawful s s' page false law same = lawful_same s s' same law

module _ (s s' : PassState) (id : SpId) (pointer : Pointer) (now : Option Pointer) where
  abbrev cell : ℕ
  cell = cell_under (plan_of s) pointer

  -- the counts of linked pointers, where the pass left the page
  one_less : (leaves : Bool) → Becomes s id pointer leaves now s' → (c : ℕ)
      → linked_on s' c + cond (is_linked_on (plan_of s) c (Some pointer)) 1 0 ≡ linked_on s c + cond (is_linked_on (plan_of s) c now) 1 0
  one_less leaves becomes c =
      ap (λ (y : Site). linked_in (plan_at y) s'.pointers c + cond (is_linked_on (plan_of s) c (Some pointer)) 1 0) (goes_home s s' (page_under (plan_of s) pointer) leaves becomes.page).0
      ∙ (ap (λ (ps : List (Option Pointer)). linked_in (plan_of s) ps c + cond (is_linked_on (plan_of s) c (Some pointer)) 1 0) becomes.pointers
      ∙ linked_set (plan_of s) c id.key s.pointers pointer now becomes.was)

  -- pins and links are as many as linked pointers still
  pub linked_then : (leaves : Bool) → Becomes s id pointer leaves now s' → MayBecome (plan_of s) pointer leaves now → AreLinked s → AreLinked s'
  linked_then true becomes may linked = record {
    pins = λ c. ap (times c) becomes.page.pins ∙ dite (ℕ_discrete c cell)
        (λ e. let n = none c in let one = at_cell c e in let all = one_less true becomes c in let was = linked.pins c in
        let less = less_here c s.hand.pins (omega (arith, n, one, all, was)) in
        ap (λ d. times c (less_one d s.hand.pins)) (sym e) ∙ omega (arith, n, one, all, was, less))
        (λ ne. let n = none c in let off = away c ne in let all = one_less true becomes c in let was = linked.pins c in let same = less_else cell c s.hand.pins ne in omega (arith, n, off, all, was, same));
    links = λ c. dite (ℕ_discrete c cell)
        (λ e. let n = none c in let one = at_cell c e in let all = one_less true becomes c in let was = linked.links c in
        let less = becomes.page.link in
        ap (links_on core_terms s'.hand) e ∙ (let was' = ap (links_on core_terms s.hand) e in let mine : linked_on s' c ≡ linked_on s' c = refl in omega (arith, n, one, all, was, was', less)))
        (λ ne. let n = none c in let off = away c ne in let all = one_less true becomes c in let was = linked.links c in let same = becomes.page.links c ne in omega (arith, n, off, all, was, same));
  } where
    none : (c : ℕ) → ◌≡◌ {A = ℕ} (cond (is_linked_on (plan_of s) c now) 1 0) 0
    none c = ap {B = ℕ} (λ b. cond b 1 0) (may.free refl c)

    at_cell : (c : ℕ) → c ≡ cell → ◌≡◌ {A = ℕ} (cond (is_linked_on (plan_of s) c (Some pointer)) 1 0) 1
    at_cell c e = ap {B = ℕ} (λ b. cond b 1 0) (ap (λ d. is_linked_on (plan_of s) d (Some pointer)) e ∙ on_own (plan_of s) pointer (may.linked refl))

    away : (c : ℕ) → c ≢ cell → ◌≡◌ {A = ℕ} (cond (is_linked_on (plan_of s) c (Some pointer)) 1 0) 0
    away c ne = ap {B = ℕ} (λ b. cond b 1 0) (on_other (plan_of s) c pointer (may.linked refl) ne)
  linked_then false becomes may linked = record {
    pins = λ c. let was = linked.pins c in let all = one_less false becomes c in let same = ap {B = ℕ} (λ b. cond b 1 0) (may.same refl c) in
        ap (λ (y : PassState). times c y.hand.pins) becomes.page ∙ omega (arith, was, all, same);
    links = λ c. let was = linked.links c in let all = one_less false becomes c in let same = ap {B = ℕ} (λ b. cond b 1 0) (may.same refl c) in
        ap (λ (y : PassState). links_on core_terms y.hand c) becomes.page ∙ omega (arith, was, all, same);
  }

  -- and each pointer stands in its range still
  pub placed_then : (leaves : Bool) → Becomes s id pointer leaves now s' → ((one : Pointer) → now ≡ Some one → IsPointer (plan_of s) (home_of s) one)
      → ((other : SpId) (one : Pointer) → pointer_of s other ≡ Some one → IsPointer (plan_of s) (home_of s) one)
      → (other : SpId) (one : Pointer) → pointer_of s' other ≡ Some one → IsPointer (plan_of s') (home_of s') one
  placed_then leaves becomes there placed other one is =
      let same = goes_home s s' (page_under (plan_of s) pointer) leaves becomes.page in
      let set_is = sym (ap (λ (ps : List (Option Pointer)). pointer_in ps other.key) becomes.pointers) ∙ is in
      let before : IsPointer (plan_of s) (home_of s) one = dite (ℕ_discrete other.key id.key)
      (λ e. there one (sym (get_or-set_same s.pointers id.key now None (key_within (plan_of s) s.pointers id.key pointer becomes.was)) ∙ (ap (pointer_in (set s.pointers id.key now)) (sym e) ∙ set_is)))
      (λ ne. placed other one (sym (get_or-set_other s.pointers id.key other.key now None ne) ∙ set_is)) in
      subst (λ (n : ℕ). IsPointer (plan_of s') (enclave_of (plan_of s') n) one) (sym same.1)
      (subst (λ (y : Site). IsPointer (plan_at y) (enclave_of (plan_at y) s.hand.number) one) (sym same.0) before)

  pub pointers_then : (leaves : Bool) → Becomes s id pointer leaves now s' → MayBecome (plan_of s) pointer leaves now → ((one : Pointer) → now ≡ Some one → IsPointer (plan_of s) (home_of s) one) → ArePointers s → ArePointers s'
  pointers_then leaves becomes may there are = record {
    caller = let same = goes_home s s' (page_under (plan_of s) pointer) leaves becomes.page in
        subst (λ (y : Site × ℕ). IsCaller (plan_at y.0) y.1) (λ i. (sym same.0 i, sym same.1 i)) are.caller;
    lawful = goes_lawful s s' (page_under (plan_of s) pointer) leaves are.lawful becomes.page;
    placed = placed_then leaves becomes there are.placed;
    linked = linked_then leaves becomes may are.linked;
  }

-- a pointer without a link was added
pub pointers_added : (s s' : PassState) (id : SpId) (pointer : Pointer) → HasAdded s id pointer s' → pointer.is_linked ≡ false → IsPointer (plan_of s) (home_of s) pointer → ArePointers s → ArePointers s'
pointers_added s s' id pointer has none placed are = subst ArePointers (sym has.rest) (record {
  caller = are.caller;
  lawful = record { machine = are.lawful.machine; hand = are.lawful.hand; run = are.lawful.run };
  placed = λ other one is. dite (ℕ_discrete other.key id.key)
      (λ e. let same : Some pointer ≡ Some one = sym has.added.changed ∙ (ap (pointer_in s'.pointers) (sym e) ∙ is) in
      subst (IsPointer (plan_of s) (home_of s)) (ap (λ (o : Option Pointer). unwrap_or o pointer) same) placed)
      (λ ne. are.placed other one (sym (has.added.others other.key ne) ∙ is));
  linked = record {
    pins = λ c. are.linked.pins c ∙ sym (linked_put (plan_of s) c id.key s.pointers s'.pointers pointer has.fresh has.added none);
    links = λ c. are.linked.links c ∙ sym (linked_put (plan_of s) c id.key s.pointers s'.pointers pointer has.fresh has.added none);
  };
})

-- what was let go stays so when other pointers are put in place
pub lets_go_put : (s mid s' : PassState) (page : ℕ) (leaves : Bool) (ps : List (Option Pointer)) → LetsGo s page leaves mid → s' ≡ record mid { pointers = ps } → LetsGo s page leaves s'
lets_go_put s mid s' page true ps gone is = subst (Unlinks s page) (sym is) (record {
  past = gone.past;
  goes = gone.goes;
  sees = gone.sees;
  legal = gone.legal;
  turns = gone.turns;
  pins = gone.pins;
  link = gone.link;
  links = gone.links;
  refused = gone.refused;
  rest = ap (λ (y : PassState). record y { pointers = ps }) gone.rest;
  lawful = record { machine = gone.lawful.machine; hand = gone.lawful.hand; run = gone.lawful.run };
})
lets_go_put s mid s' page false ps same is =
    is ∙ (ap (λ (y : PassState). record y { pointers = ps }) same ∙ ap (λ (qs : List (Option Pointer)). record s { pointers = qs }) (sym (ap (λ (y : PassState). y.pointers) is)))

-- a linked pointer of the pass has a link on its page
pub link_there : (s : PassState) (id : SpId) (pointer : Pointer) → AreLinked s → pointer_of s id ≡ Some pointer → pointer.is_linked ≡ true → 0 < links_on core_terms s.hand (cell_under (plan_of s) pointer)
link_there s id pointer linked was is =
    let some = linked_some (plan_of s) id.key s.pointers pointer was is in let all = linked.links (cell_under (plan_of s) pointer) in omega (arith, some, all)

-- what holds of the pointer that there is
pub placed_now : {k : Plan} {e : ℕ} (now : Option Pointer) → IfSome now (λ one. IsPointer k e one) → (one : Pointer) → now ≡ Some one → IsPointer k e one
placed_now {k} {e} now placed one is = subst (λ o. IfSome o (λ one. IsPointer k e one)) is placed
