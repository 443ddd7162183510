-- A pointer is linked, or is not: from the call's first step to its last.
use Rattle.std.proofs.Common.{◌≡◌, ◌≢◌, ◌⊎◌, inl, inr, ⊎_elim, ℕ, ◌+◌, ◌<◌, ◌≤◌, List, [], ◌∷◌, length, set, true, false, cond, is_some, Option, Some, None, unwrap_or, Ok, Err, refl, sym, ◌∙◌, ap, subst, arith, append-nil}
use mathlib.Core.Logic.{dite}
use native.Mathlib.Decide.{ℕ_discrete}
use Rattle.std.proofs.lemmas.List.{get_or-set_other, get_or-set_same}
use Rattle.eleos_base.specs.declared.memory.Addr.{Addr}
use Rattle.eleos_base.specs.declared.memory.Reply.TheVariants.{Done}
use Rattle.eleos_base.specs.declared.plan.Plan.{Plan}
use Rattle.eleos_base.specs.Places.{home_of as home_at}
use Rattle.eleos_base.specs.Plans.{IsCaller, enclave_of}
use Rattle.eleos_base.specs.Words.{IsBusy}
use Rattle.eleos_core.specs.declared.event.Wanted.TheVariants.{Link as ALink}
use Rattle.eleos_core.specs.Accesses.{IsAccess, link_stamp, page_at}
use Rattle.eleos_core.specs.Parts.{Made, clock_cell, page_cell}
use Rattle.eleos_host.specs.declared.port.HostPort.{Ghosts}
use Rattle.eleos_host.specs.declared.port.HostStore as store
use Rattle.eleos_host.specs.Taps.{TapState}
use Rattle.eleos_plot.specs.Terms.{core_terms}
use Rattle.eleos_turn.specs.Hands.{Goes, entries, links_on, refused_at}
use Rattle.eleos_turn.specs.Numbers.{most_pins, times}
use Rattle.eleos_turn.proofs.Clients.{goes_trans}
use Rattle.eleos_turn.proofs.Numbers.{times_else, times_here}
use Rattle.eleos_machine.specs.declared.holding.HeldPage.{HeldPage}
use Rattle.eleos_machine.specs.declared.pointers.Pointer.{Pointer}
use Rattle.eleos_machine.specs.declared.pointers.SpId.{SpId}
use Rattle.eleos_machine.specs.Holding.{HasPage, frame_seen}
use Rattle.eleos_machine.specs.Machines.{Site, plan_at}
use Rattle.eleos_machine.specs.Passes.{IsLawful, PassState, linked_on, plan_of, pointer_of, seen}
use Rattle.eleos_machine.specs.Pointers.{cell_under, is_linked_on, linked_in, page_under, place_of, pointer_in, pointers_in}
use Rattle.eleos_pages.specs.Entered.{CanCall}
use Rattle.eleos_pages.proofs.Beginning.{entered_after}
use Rattle.eleos_spointer.specs.declared.refusing.LinkRefused.{LinkRefused}
use Rattle.eleos_spointer.specs.declared.refusing.LinkRefused.TheVariants.{NoFrame, NotYours, Tampered, Unallocated}
use Rattle.eleos_spointer.specs.declared.refusing.TryLinkRefused.{TryLinkRefused}
use Rattle.eleos_spointer.specs.declared.refusing.TryLinkRefused.TheVariants.{Busy, Link}
use Rattle.eleos_spointer.specs.Brought.{Accepts, Brings, CameIn, Fetches, MayFetch, TriesFetch, cell_of_held}
use Rattle.eleos_spointer.specs.Judged.{MayJudge, Refuses, RefusesLink}
use Rattle.eleos_spointer.specs.Linked.{HasLinked, IsThere, LinkBusy, Links, TookPage, TriesLink}
use Rattle.eleos_spointer.specs.Ranges.{ArePointers, IsPointer, home_of}
use Rattle.eleos_spointer.specs.Reached.{Reaches, Stands}
use Rattle.eleos_spointer.specs.Refused.{refusal_reply}
use Rattle.eleos_spointer.specs.Tied.{MayTie, Ties, with_link}
use Rattle.eleos_spointer.proofs.Accessing.{pointers_kept}
use Rattle.eleos_spointer.proofs.Counting.{key_within, linked_set, off, on_other, on_own}
use Rattle.eleos_spointer.proofs.Fetching.{brings_after, come_on, home_there}
use Rattle.eleos_spointer.proofs.FewPins.{few_pins}
use Rattle.eleos_spointer.proofs.Places.{byte_in_range, home_below}
use Rattle.eleos_spointer.proofs.Reaching.{reaches_then, seen_on}

-- what a pass reaches with its pins, links and pointers leaves what holds of its pointers
pub pointers_reached : (s s' : PassState) (made : List Made) (held : List ℕ) → Reaches s made held s' → ArePointers s → ArePointers s'
pointers_reached s s' made held to are = pointers_kept s s' to.goes.home to.goes.number to.pins to.links to.pointers to.lawful are

-- a link more on the page of a pointer leaves what holds of all pointers
pub pointers_linked : (s s' : PassState) (id : SpId) (pointer : Pointer) → pointer_of s id ≡ Some pointer → pointer.is_linked ≡ false → s'.hand.home ≡ s.hand.home → s'.hand.number ≡ s.hand.number
    → s'.hand.pins ≡ cell_under (plan_of s) pointer ∷ s.hand.pins → links_on core_terms s'.hand (cell_under (plan_of s) pointer) ≡ links_on core_terms s.hand (cell_under (plan_of s) pointer) + 1
    → ((c : ℕ) → c ≢ cell_under (plan_of s) pointer → links_on core_terms s'.hand c ≡ links_on core_terms s.hand c) → s'.pointers ≡ set s.pointers id.key (Some (with_link pointer)) → IsLawful s' → ArePointers s → ArePointers s'
pointers_linked s s' id pointer was none home number pins link links pointers law are = record {
  caller = subst (λ (y : Site × ℕ). IsCaller (plan_at y.0) y.1) (λ i. (sym home i, sym number i)) are.caller;
  lawful = law;
  placed = λ other one is.
      let set_is = sym (ap (λ (ps : List (Option Pointer)). pointer_in ps other.key) pointers) ∙ is in
      let before : IsPointer (plan_of s) (home_of s) one = dite (ℕ_discrete other.key id.key)
      (λ e. let same : Some (with_link pointer) ≡ Some one = sym (get_or-set_same s.pointers id.key now None inside) ∙ (ap (pointer_in (set s.pointers id.key now)) (sym e) ∙ set_is) in
      subst (IsPointer (plan_of s) (home_of s)) (ap (λ (o : Option Pointer). unwrap_or o pointer) same) still)
      (λ ne. are.placed other one (sym (get_or-set_other s.pointers id.key other.key now None ne) ∙ set_is)) in
      subst (λ (y : Site × ℕ). IsPointer (plan_at y.0) (enclave_of (plan_at y.0) y.1) one) (λ i. (sym home i, sym number i)) before;
  linked = record {
    pins = λ c. dite (ℕ_discrete c cell)
        (λ e. let all = counts c in let a = gone c in let b = here c e in let was' = are.linked.pins c in let more = times_here cell s.hand.pins in
        ap (times c) pins ∙ (ap (λ (d : ℕ). times d (cell ∷ s.hand.pins)) e ∙ (let was'' = ap (λ (d : ℕ). times d s.hand.pins) e in omega (arith, all, a, b, was', was'', more))))
        (λ ne. let all = counts c in let a = gone c in let b = away c ne in let was' = are.linked.pins c in let more = times_else c cell s.hand.pins ne in
        ap (times c) pins ∙ omega (arith, all, a, b, was', more));
    links = λ c. dite (ℕ_discrete c cell)
        (λ e. let all = counts c in let a = gone c in let b = here c e in let was' = are.linked.links c in let was'' = ap (links_on core_terms s.hand) e in
        ap (links_on core_terms s'.hand) e ∙ omega (arith, all, a, b, was', was'', link))
        (λ ne. let all = counts c in let a = gone c in let b = away c ne in let was' = are.linked.links c in let same = links c ne in omega (arith, all, a, b, was', same));
  };
} where
  now : Option Pointer
  now = Some (with_link pointer)

  cell : ℕ
  cell = cell_under (plan_of s) pointer

  inside : id.key < length s.pointers
  inside = key_within (plan_of s) s.pointers id.key pointer was

  still : IsPointer (plan_of s) (home_of s) (with_link pointer)
  still = let is = are.placed id pointer was in record { range = is.range; inside = is.inside }

  counts : (c : ℕ) → linked_on s' c + cond (is_linked_on (plan_of s) c (Some pointer)) 1 0 ≡ linked_on s c + cond (is_linked_on (plan_of s) c now) 1 0
  counts c = ap (λ (y : Site). linked_in (plan_at y) s'.pointers c + cond (is_linked_on (plan_of s) c (Some pointer)) 1 0) home
      ∙ (ap (λ (ps : List (Option Pointer)). linked_in (plan_of s) ps c + cond (is_linked_on (plan_of s) c (Some pointer)) 1 0) pointers
      ∙ linked_set (plan_of s) c id.key s.pointers pointer now was)

  gone : (c : ℕ) → ◌≡◌ {A = ℕ} (cond (is_linked_on (plan_of s) c (Some pointer)) 1 0) 0
  gone c = ap {B = ℕ} (λ b. cond b 1 0) (off (plan_of s) c pointer none)

  here : (c : ℕ) → c ≡ cell → ◌≡◌ {A = ℕ} (cond (is_linked_on (plan_of s) c now) 1 0) 1
  here c e = ap {B = ℕ} (λ b. cond b 1 0) (ap (λ d. is_linked_on (plan_of s) d now) e ∙ on_own (plan_of s) (with_link pointer) refl)

  away : (c : ℕ) → c ≢ cell → ◌≡◌ {A = ℕ} (cond (is_linked_on (plan_of s) c now) 1 0) 0
  away c ne = ap {B = ℕ} (λ b. cond b 1 0) (on_other (plan_of s) c (with_link pointer) refl ne)

-- a try that found the cell of the pointer's page busy
pub page_busy : (s : PassState) (pointer : Pointer) (word : ℕ) (s' : PassState) → s.hand.turns ≡ [] → IsBusy word → s' ≡ record s { hand = refused_at s.hand (cell_under (plan_of s) pointer) word } → IsLawful s'
    → {P : Type 0} (port : Ghosts P) (host : store.Ghosts P) (tap : TapState P) → LinkBusy port host s tap pointer word s' tap
page_busy s pointer word s' none busy is law port host tap = record {
  busy = busy;
  cell = cell_under (plan_of s) pointer;
  which = inl refl;
  refused = ap (λ (y : PassState). y.hand.refused) is;
  reaches = record {
    goes = subst (λ (y : PassState). Goes core_terms s.hand y.hand []) (sym is)
        (record { home = refl; number = refl; left = omega arith; own = sym (append-nil (entries core_terms s.hand)); more = []; sees = sym (append-nil s.hand.seen) });
    turns = ap (λ (y : PassState). y.hand.turns) is ∙ none;
    pins = ap (λ (y : PassState). y.hand.pins) is;
    links = λ c. ap (λ (y : PassState). links_on core_terms y.hand c) is;
    pointers = ap (λ (y : PassState). y.pointers) is;
    lawful = law;
  };
  untouched = refl;
}

-- the page is in a frame, and in hand; so the pass made these entries for it since its first state
pub record Gets {P : Type 0} (port : Ghosts P) (host : store.Ghosts P) (s : PassState) (before : TapState P) (pointer : Pointer) (s₁ : PassState) (page' : HeldPage) (s₂ : PassState) (tap : TapState P) : Type 0 where
  pub made : List Made
  pub few : length made ≤ 2
  pub reaches : Reaches s made (cell_under (plan_of s) pointer ∷ []) s₂
  pub page_is : page'.page ≡ page_under (plan_of s) pointer
  pub has : HasPage s₂ page'.page page'.cell
  pub present : is_some (frame_seen s₂ page'.page) ≡ true
  pub accepted : Accepts s₂ page' (ALink (place_of pointer))
  pub there : ((made ≡ []) × (s₂ ≡ s₁) × (tap ≡ before)) ⊎ CameIn port host s.hand.home (seen s₂) s.hand.number (page_under (plan_of s) pointer) made before tap

pub gets : (s : PassState) (pointer : Pointer) (page : HeldPage) (s₁ : PassState) → TookPage s pointer page s₁ → {P : Type 0} (port : Ghosts P) (host : store.Ghosts P) (before : TapState P) (page' : HeldPage) (s₂ : PassState) (tap : TapState P)
    → Accepts s₁ page (ALink (place_of pointer)) → Fetches port host s₁ before page (ALink (place_of pointer)) (Ok page') s₂ tap → Gets port host s before pointer s₁ page' s₂ tap
gets s pointer page s₁ took port host before page' s₂ tap accepted (inl is) =
    subst (λ (y : HeldPage × PassState). Gets port host s before pointer s₁ y.0 y.1 tap) (λ i. (sym is.same_page i, sym is.same i)) (record {
      made = [];
      few = omega arith;
      reaches = took.reaches;
      page_is = took.page_is;
      has = took.has;
      present = is.present;
      accepted = accepted;
      there = inl (refl, refl, is.untouched);
    })
gets s pointer page s₁ took port host before page' s₂ tap accepted (inr is) = record {
  made = is.made;
  few = is.few;
  reaches = subst (λ (c : ℕ). Reaches s is.made (c ∷ []) s₂) (λ i. page_cell (plan_at (took.reaches.goes.home i)) (took.page_is i))
      (reaches_then s s₁ s₂ [] is.made (cell_under (plan_of s) pointer ∷ []) (cell_of_held s₁ page ∷ []) took.reaches is.reaches);
  page_is = is.page_is ∙ took.page_is;
  has = is.has;
  present = is.present;
  accepted = is.accepted;
  there = inr (subst (λ (y : Site × ℕ × ℕ). CameIn port host y.0 (seen s₂) y.1 y.2 is.made before tap) (λ i. (took.reaches.goes.home i, took.reaches.goes.number i, took.page_is i)) is.come);
}

module _ (z : Site) (s : PassState) (id : SpId) (pointer : Pointer) (can : CanCall z s) (three : 3 ≤ s.hand.left) (are : ArePointers s) (was : pointer_of s id ≡ Some pointer) (none : pointer.is_linked ≡ false)
    (page : HeldPage) (s₁ : PassState) (took : TookPage s pointer page s₁) where
  abbrev k : Plan
  k = plan_of s

  abbrev at : Addr
  at = place_of pointer

  abbrev c₀ : ℕ
  c₀ = cell_under k pointer

  home₁ : s₁.hand.home ≡ s.hand.home
  home₁ = took.reaches.goes.home

  number₁ : s₁.hand.number ≡ s.hand.number
  number₁ = took.reaches.goes.number

  placed : IsPointer k (home_of s) pointer
  placed = are.placed id pointer was

  -- a byte at the pointer is in range
  range : IsAccess k s.hand.number at 1
  range = byte_in_range k s.hand.number pointer placed

  caller₁ : IsCaller (plan_of s₁) s₁.hand.number
  caller₁ = subst (λ (y : Site × ℕ). IsCaller (plan_at y.0) y.1) (λ i. (sym home₁ i, sym number₁ i)) are.caller

  page_is₁ : page.page ≡ page_at (plan_of s₁) at
  page_is₁ = took.page_is ∙ ap (λ (y : Site). page_at (plan_at y) at) (sym home₁)

  range₁ : IsAccess (plan_of s₁) s₁.hand.number at 1
  range₁ = subst (λ (y : Site × ℕ). IsAccess (plan_at y.0) y.1 at 1) (λ i. (sym home₁ i, sym number₁ i)) range

  left₁ : s₁.hand.left ≡ s.hand.left
  left₁ = let left = took.reaches.goes.left in omega (arith, left)

  turns₁ : s₁.hand.turns ≡ cell_of_held s₁ page ∷ []
  turns₁ = took.reaches.turns ∙ (λ i. page_cell (plan_at (sym home₁ i)) (sym took.page_is i) ∷ [])

  -- a link may be judged there
  pub may_judge : MayJudge z s₁ at page
  may_judge = record {
    own = home₁ ∙ can.own;
    caller = caller₁;
    left = omega (arith, left₁, three);
    has = took.has;
    page_is = page_is₁;
    range = range₁;
    turns = turns₁;
  }

  -- it was refused
  refused_after : (r : LinkRefused) (s₂ : PassState) → RefusesLink s₁ at (refusal_reply r) s₂ → RefusesLink s at (refusal_reply r) s₂
  refused_after r s₂ e = entered_after s s₁ s₂ (link_stamp s₁.hand.number at (refusal_reply r)) (link_stamp s.hand.number at (refusal_reply r)) [] [] took.reaches.goes took.reaches.pins took.refused took.rest
      (ap (λ (n : ℕ). link_stamp n at (refusal_reply r)) number₁) refl e

  module _ {P : Type 0} (port : Ghosts P) (host : store.Ghosts P) (before : TapState P) where
    pub refused : (r : LinkRefused) (s₂ : PassState) → Refuses s₁ at r s₂ → Links port host s before id pointer (Err r) s₂ before
    refused Unallocated s₂ is = (refused_after Unallocated s₂ is.entered, refl)
    refused (NotYours owner) s₂ is = (refused_after (NotYours owner) s₂ is.entered, refl)
    refused NoFrame s₂ is = absurd is.plain
    refused (Tampered sub) s₂ is = absurd is.plain

  pub refused_pointers : (r : LinkRefused) (s₂ : PassState) → Refuses s₁ at r s₂ → ArePointers s₂
  refused_pointers r s₂ is = let e = refused_after r s₂ is.entered in pointers_kept s s₂ e.goes.home e.goes.number e.pins e.links (ap (λ (y : PassState). y.pointers) e.rest) is.lawful are

  -- it was not, so the page may be fetched
  module _ (accepted : Accepts s₁ page (ALink at)) where
    pub may_fetch : MayFetch z s₁ page pointer.block.enclave (ALink at)
    may_fetch = record {
      wants = record { own = home₁ ∙ can.own; caller = caller₁; has = took.has; needs = tt; page_is = page_is₁; accepted = accepted };
      left = omega (arith, left₁, three);
      known = subst (λ (y : Site). pointer.block.enclave < length (plan_at y).enclaves) (sym home₁) (home_below k s.hand.number pointer are.lawful.machine.made.good are.caller placed);
      home_is = ap (home_at (plan_of s₁)) page_is₁ ∙ (home_there (plan_of s₁) s₁.hand.number at 1 range₁
          ∙ ap Some (ap (λ (y : Site × ℕ). enclave_of (plan_at y.0) y.1) (λ i. (home₁ i, number₁ i)) ∙ sym placed.range.home));
      turns = turns₁;
      covered = λ c. let a = are.linked.pins c in let b = are.linked.links c in let e = ap (times c) took.reaches.pins in let l = took.reaches.links c in omega (arith, a, b, e, l);
    }

    module _ {P : Type 0} (port : Ghosts P) (host : store.Ghosts P) (before : TapState P) where
      -- it was not fetched
      pub failed : (r : LinkRefused) (s₂ : PassState) (tap : TapState P) → Brings port host s₁ before page (ALink at) (Err r) s₂ tap → Links port host s before id pointer (Err r) s₂ tap
      failed Unallocated s₂ tap is = absurd is
      failed (NotYours owner) s₂ tap is = absurd is
      failed NoFrame s₂ tap is = brings_after port host s s₁ (c₀ ∷ []) took.reaches page (ALink at) before (Err NoFrame) s₂ tap is
      failed (Tampered sub) s₂ tap is = brings_after port host s s₁ (c₀ ∷ []) took.reaches page (ALink at) before (Err (Tampered sub)) s₂ tap is

      pub failed_pointers : (r : LinkRefused) (s₂ : PassState) (tap : TapState P) → Brings port host s₁ before page (ALink at) (Err r) s₂ tap → ArePointers s₂
      failed_pointers Unallocated s₂ tap is = absurd is
      failed_pointers (NotYours owner) s₂ tap is = absurd is
      failed_pointers NoFrame s₂ tap is = pointers_reached s₁ s₂ (is.0.starved ∷ []) [] is.0.reaches (pointers_reached s s₁ [] (c₀ ∷ []) took.reaches are)
      failed_pointers (Tampered sub) s₂ tap is = pointers_reached s₁ s₂ is.made [] is.reaches (pointers_reached s s₁ [] (c₀ ∷ []) took.reaches are)

      -- nor by a call that never waits
      clock_same : clock_cell (plan_of s₁) (Some pointer.block.enclave) ≡ clock_cell k (Some (home_of s))
      clock_same = λ i. clock_cell (plan_at (home₁ i)) (Some (placed.range.home i))

      pub unfetched : (r : TryLinkRefused) (s₂ : PassState) (tap : TapState P) → TriesFetch port host s₁ before page pointer.block.enclave (ALink at) (Err r) s₂ tap → TriesLink port host s before id pointer (Err r) s₂ tap
      unfetched (Link r) s₂ tap is = failed r s₂ tap is
      unfetched (Busy word) s₂ tap is = record {
        busy = is.busy;
        cell = clock_cell k (Some (home_of s));
        which = inr refl;
        refused = is.refused ∙ (λ i. (refused_at (record s.hand { refused = took.refused i }) (clock_same i) word).refused);
        reaches = reaches_then s s₁ s₂ [] [] (c₀ ∷ []) [] took.reaches is.reaches;
        untouched = is.untouched;
      }

      pub unfetched_pointers : (r : TryLinkRefused) (s₂ : PassState) (tap : TapState P) → TriesFetch port host s₁ before page pointer.block.enclave (ALink at) (Err r) s₂ tap → ArePointers s₂
      unfetched_pointers (Link r) s₂ tap is = failed_pointers r s₂ tap is
      unfetched_pointers (Busy word) s₂ tap is = pointers_reached s₁ s₂ [] [] is.reaches (pointers_reached s s₁ [] (c₀ ∷ []) took.reaches are)

      -- it is in a frame, so the pointer may be linked
      module _ (page' : HeldPage) (s₂ : PassState) (tap : TapState P) (fetched : Fetches port host s₁ before page (ALink at) (Ok page') s₂ tap) where
        g : Gets port host s before pointer s₁ page' s₂ tap
        g = gets s pointer page s₁ took port host before page' s₂ tap accepted fetched

        home₂ : s₂.hand.home ≡ s.hand.home
        home₂ = g.reaches.goes.home

        number₂ : s₂.hand.number ≡ s.hand.number
        number₂ = g.reaches.goes.number

        pub may_tie : pointers_in s.pointers ≤ 256 → MayTie z s₂ id pointer page'
        may_tie some = record {
          own = home₂ ∙ can.own;
          caller = subst (λ (y : Site × ℕ). IsCaller (plan_at y.0) y.1) (λ i. (sym home₂ i, sym number₂ i)) are.caller;
          left = let left = g.reaches.goes.left in let few = g.few in omega (arith, left, few, three);
          was = ap (λ (ps : List (Option Pointer)). pointer_in ps id.key) g.reaches.pointers ∙ was;
          placed = subst (λ (y : Site × ℕ). IsPointer (plan_at y.0) (enclave_of (plan_at y.0) y.1) pointer) (λ i. (sym home₂ i, sym number₂ i)) placed;
          covered = λ c. let a = are.linked.pins c in let b = are.linked.links c in let e = ap (times c) g.reaches.pins in let l = g.reaches.links c in omega (arith, a, b, e, l);
          few = subst (λ (pins : List ℕ). length pins < most_pins) (sym g.reaches.pins) (few_pins s are.linked some);
          page_is = g.page_is ∙ ap (λ (y : Site). page_under (plan_at y) pointer) (sym home₂);
          has = g.has;
          turns = g.reaches.turns ∙ ap (λ (y : Site). cell_under (plan_at y) pointer ∷ []) (sym home₂);
          present = g.present;
          accepted = g.accepted;
        }

        -- it was linked
        module _ (s₃ : PassState) (t : Ties s₂ id pointer s₃) where
          there : IsThere port host s before pointer g.made s₃ tap
          there = ⊎_elim
              (λ (is : (g.made ≡ []) × (s₂ ≡ s₁) × (tap ≡ before)). inl (
                is.0,
                record {
                  tried = ap (λ (x : ℕ × ℕ). x.0) t.quiet.tried ∙ (ap (λ (y : PassState). y.hand.tried.0) is.1 ∙ took.only.tried);
                  misses = t.quiet.misses ∙ (ap (λ (y : PassState). y.hand.misses) is.1 ∙ took.only.misses);
                  looks = t.quiet.looks ∙ (ap (λ (y : PassState). y.hand.looks) is.1 ∙ took.only.looks);
                },
                is.2,
              ))
              (λ (is : CameIn port host s.hand.home (seen s₂) s.hand.number (page_under k pointer) g.made before tap).
              inr (come_on port host s.hand.home (seen s₂) (seen s₃) s.hand.number (seen_on s₂ s₃ (t.tied ∷ []) t.goes) (page_under k pointer) g.made before tap is)) g.there

          pins : s₃.hand.pins ≡ c₀ ∷ s.hand.pins
          pins = t.pins ∙ (λ i. cell_under (plan_at (home₂ i)) pointer ∷ g.reaches.pins i)

          link : links_on core_terms s₃.hand c₀ ≡ links_on core_terms s.hand c₀ + 1
          link = subst (λ (y : Site). links_on core_terms s₃.hand (cell_under (plan_at y) pointer) ≡ links_on core_terms s₂.hand (cell_under (plan_at y) pointer) + 1) home₂ t.link
              ∙ ap (λ (n : ℕ). n + 1) (g.reaches.links c₀)

          links : (c : ℕ) → c ≢ c₀ → links_on core_terms s₃.hand c ≡ links_on core_terms s.hand c
          links c ne = t.links c (λ same. ne (same ∙ ap (λ (y : Site). cell_under (plan_at y) pointer) home₂)) ∙ g.reaches.links c

          pointers : s₃.pointers ≡ set s.pointers id.key (Some (with_link pointer))
          pointers = t.pointers ∙ ap (λ (ps : List (Option Pointer)). set ps id.key (Some (with_link pointer))) g.reaches.pointers

          pub linked : HasLinked port host s before id pointer s₃ tap
          linked = record {
            made = g.made;
            there = there;
            tied = t.tied;
            is = t.is ∙ ap (λ (n : ℕ). link_stamp n at Done) number₂;
            stands = subst (λ (y : Site). Stands y (seen s₃) t.tied) home₂ t.stands;
            goes = goes_trans core_terms s.hand s₂.hand s₃.hand g.made (t.tied ∷ []) g.reaches.goes t.goes;
            turns = t.turns;
            pins = pins;
            link = link;
            links = links;
            pointers = pointers;
          }

          pub linked_pointers : ArePointers s₃
          linked_pointers = pointers_linked s s₃ id pointer was none (t.goes.home ∙ home₂) (t.goes.number ∙ number₂) pins link links pointers t.lawful are
