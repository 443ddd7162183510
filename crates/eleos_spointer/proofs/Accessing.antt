-- Accesses through linked pointers: their pages are in frames, and the pointers stay as they are.
use Rattle.std.proofs.Common.{◌≡◌, ℕ, ◌<◌, List, [], ◌∷◌, filter, true, Option, Some, None, IsSome, is_some, if◌then◌else◌, refl, sym, ◌∙◌, ap, subst, arith}
use Rattle.eleos_base.specs.declared.memory.Addr.{Addr}
use Rattle.eleos_base.specs.declared.memory.Op.{Op as Calls}
use Rattle.eleos_base.specs.declared.memory.Op.TheVariants.{Read, Write}
use Rattle.eleos_base.specs.declared.memory.Reply.{Reply}
use Rattle.eleos_base.specs.declared.plan.Plan.{Plan}
use Rattle.eleos_base.specs.Places.{sub_of}
use Rattle.eleos_base.specs.Plans.{IsCaller, enclave_of}
use Rattle.eleos_core.specs.declared.event.Event.TheVariants.{Op}
use Rattle.eleos_core.specs.declared.event.Wanted.TheVariants.{Op as ACall}
use Rattle.eleos_core.specs.declared.cells.page.Page.{Page as Pages}
use Rattle.eleos_core.specs.declared.cells.page.Present.{Present}
use Rattle.eleos_core.specs.Accesses.{page_at}
use Rattle.eleos_core.specs.Applying.{stamp_of}
use Rattle.eleos_core.specs.Cells.{frame_of_page, part_of_page}
use Rattle.eleos_core.specs.Legal.{CoreRun, CoreStep, wanted_refusal}
use Rattle.eleos_core.specs.Parts.{Cell as Numbered, Part, Stamp, after_at, frame_in, page_cell, part_after, part_of, the_page}
use Rattle.eleos_core.specs.Seals.{Seals}
use Rattle.eleos_core.specs.State.{History, entry, frame, is_present, is_sealed, links}
use Rattle.eleos_core.proofs.LinkedPages.{linked_stay}
use Rattle.eleos_plot.specs.declared.cell.Cell.{Cell}
use Rattle.eleos_plot.specs.declared.cell.Cell.TheVariants.{Page}
use Rattle.eleos_plot.specs.declared.plot.Ground.{Ground}
use Rattle.eleos_plot.specs.Terms.{core_terms}
use Rattle.eleos_turn.specs.Hands.{HandState, links_on, refused_at}
use Rattle.eleos_turn.specs.Numbers.{less_one, times}
use Rattle.eleos_turn.proofs.Clients.{goes_links}
use Rattle.eleos_machine.specs.declared.pointers.Pointer.{Pointer}
use Rattle.eleos_machine.specs.Machines.{Site, plan_at}
use Rattle.eleos_machine.specs.Passes.{IsLawful, PassState, TookTurn, linked_on, part_seen, plan_of, seals_of, seen}
use Rattle.eleos_machine.specs.Pointers.{cell_under, linked_in, place_of, pointer_in}
use Rattle.eleos_pages.specs.Entered.{Enters}
use Rattle.eleos_pages.specs.Held.{EntersHeld, HoldsPage, IsPageOf, access_stamp}
use Rattle.eleos_pages.proofs.Beginning.{entered_after}
use Rattle.eleos_pages.proofs.Ending.{only_turn}
use Rattle.eleos_pages.proofs.OnPages.{same_hand, seen_part}
use Rattle.eleos_direct.specs.Accesses.{IsAccessAt}
use Rattle.eleos_direct.specs.Laws.{AreLast, IsServed}
use Rattle.eleos_direct.proofs.Complete.{accesses_complete}
use Rattle.eleos_spointer.specs.Accessed.{HasAccessed}
use Rattle.eleos_spointer.specs.Ranges.{ArePointers, IsPointer}

-- a page on which the pass has a link is in a frame
pub linked_present : (s : PassState) → IsLawful s → (p : ℕ) → 0 < links_on core_terms s.hand (page_cell (plan_of s) p) → IsSome (frame (seen s) p)
linked_present s law p some = linked_stay (plan_of s) (seals_of s) (seen s) law.run.legal s.hand.number p (let same = law.run.links s.hand.number p in omega (arith, same, some))

-- so it was before an access that the pass stamped
pub present_before : (s s' : PassState) (op : Calls) (blocks : List (List ℕ)) (reply : Reply) (held : List ℕ) (e : Enters s (access_stamp s op blocks reply) held s') → IsLawful s' → (p : ℕ)
    → 0 < links_on core_terms s.hand (page_cell (plan_of s) p) → is_some (frame e.past p) ≡ true
present_before s s' op blocks reply held e law p some =
    let k : Plan = plan_of s' in
    let all : History = (access_stamp s op blocks reply).entry ∷ e.past in
    let run : CoreRun k (seals_of s') all = subst (CoreRun k (seals_of s')) e.sees law.run.legal in
    let there : links_on core_terms s'.hand (page_cell k p) ≡ links k all s'.hand.number p = law.run.links s'.hand.number p ∙ ap (λ (h : History). links k h s'.hand.number p) e.sees in
    let same : links_on core_terms s'.hand (page_cell k p) ≡ links_on core_terms s.hand (page_cell (plan_of s) p)
    = e.links (page_cell k p) ∙ ap (λ (z : Site). links_on core_terms s.hand (page_cell (plan_at z) p)) e.goes.home in
    linked_stay k (seals_of s') e.past run.1 s'.hand.number p (omega (arith, there, same, some))

no_places : (k : Plan) (x : Seals) (past : History) (place : ℕ) → is_present k past place ≡ true → AreLast k x past (if is_present k past place then [] else filter (is_sealed k past) (place ∷ [])) []
no_places k x past place is = subst (λ b. AreLast k x past (if b then [] else filter (is_sealed k past) (place ∷ [])) []) (sym is) tt

-- an access there takes no block, so what plain memory does not refuse is served
pub served : (k : Plan) (x : Seals) (past : History) (who : ℕ) (at : Addr) (n : ℕ) (op : Calls) (reply : Reply) → IsAccessAt at n op → is_present k past (sub_of k at) ≡ true
    → CoreStep k x past (entry who (Op op) [] reply) → wanted_refusal k past who (ACall op) ≡ None → IsServed k op reply
served k x past who at n (Read from m) reply is there step allowed =
    accesses_complete k x past who (Read from m) [] reply step allowed (no_places k x past (sub_of k from) (ap (λ (a : Addr). is_present k past (sub_of k a)) is.0 ∙ there))
served k x past who at n (Write from new) reply is there step allowed =
    accesses_complete k x past who (Write from new) [] reply step allowed (no_places k x past (sub_of k from) (ap (λ (a : Addr). is_present k past (sub_of k a)) is.0 ∙ there))
served k x past who at n _ reply is there step allowed = absurd is

-- the entry of an access on a page that the pass links
pub accessed : (s s' : PassState) (at : Addr) (n : ℕ) (op : Calls) (reply : Reply) → IsAccessAt at n op → Enters s (access_stamp s op [] reply) [] s' → IsLawful s'
    → 0 < links_on core_terms s.hand (page_cell (plan_of s) (page_at (plan_of s) at)) → HasAccessed s at op reply s'
accessed s s' at n op reply is e law some =
    let there = present_before s s' op [] reply [] e law (page_at (plan_of s) at) some in record {
      entered = e;
      present = there;
      served = served (plan_of s) (seals_of s) e.past s.hand.number at n op reply is there e.legal;
    }

-- an access on the page whose turn was taken is one of the pass before
pub entered_call : (s begun mid s' : PassState) (op : Calls) (reply : Reply) (cell word : ℕ) (value : Cell) → begun ≡ s → s.hand.turns ≡ [] → TookTurn cell word begun value mid
    → EntersHeld mid cell (access_stamp mid op [] reply) s' → Enters s (access_stamp s op [] reply) [] s'
entered_call s begun mid s' op reply cell word value same idle took_turn e =
    let took : TookTurn cell word s value mid = subst (λ (y : PassState). TookTurn cell word y value mid) same took_turn in
    entered_after s mid s' (access_stamp mid op [] reply) (access_stamp s op [] reply) (less_one cell mid.hand.turns) [] took.goes
    (ap (λ (y : HandState Stamp _ Ground). y.pins) took.took.now) (ap (λ (y : HandState Stamp _ Ground). y.refused) took.took.now) took.rest
    (ap (λ who. stamp_of who (Op op) [] reply 0) took.goes.number)
    (only_turn cell mid.hand.turns (ap (λ (y : HandState Stamp _ Ground). y.turns) took.took.now ∙ ap (λ turns. cell ∷ turns) idle)) e.entered

-- the link of a pointer is one on the cell of the access's page, also once its turn was taken
pub link_after : (z : Site) (s begun mid : PassState) (pointer : Pointer) (who n cell word : ℕ) (value : Cell) → s.hand.home ≡ z → begun ≡ s → TookTurn cell word begun value mid
    → IsPageOf (plan_at z) who (place_of pointer) n cell → 0 < links_on core_terms s.hand (cell_under (plan_of s) pointer) → 0 < links_on core_terms mid.hand cell
link_after z s begun mid pointer who n cell word value own same took_turn page some =
    let took : TookTurn cell word s value mid = subst (λ (y : PassState). TookTurn cell word y value mid) same took_turn in
    let at : cell ≡ cell_under (plan_of s) pointer = page.cell_is ∙ ap (λ (y : Site). cell_under (plan_at y) pointer) (sym own) in
    let kept : links_on core_terms mid.hand cell ≡ links_on core_terms s.hand (cell_under (plan_of s) pointer)
    = goes_links core_terms s.hand mid.hand [] took.goes tt cell ∙ ap (links_on core_terms s.hand) at in
    omega (arith, kept, some)

-- while its pins, its links and its pointers stay, so does what holds of a pass's pointers
pub pointers_kept : (s s' : PassState) → s'.hand.home ≡ s.hand.home → s'.hand.number ≡ s.hand.number → s'.hand.pins ≡ s.hand.pins → ((c : ℕ) → links_on core_terms s'.hand c ≡ links_on core_terms s.hand c)
    → s'.pointers ≡ s.pointers → IsLawful s' → ArePointers s → ArePointers s'
pointers_kept s s' home number pins links pointers law are = record {
  caller = subst (λ (y : Site × ℕ). IsCaller (plan_at y.0) y.1) (λ i. (sym home i, sym number i)) are.caller;
  lawful = law;
  placed = λ id pointer is. subst (λ (n : ℕ). IsPointer (plan_of s') (enclave_of (plan_of s') n) pointer) (sym number)
      (subst (λ (y : Site). IsPointer (plan_at y) (enclave_of (plan_at y) s.hand.number) pointer) (sym home)
      (are.placed id pointer (sym (ap (λ (ps : List (Option Pointer)). pointer_in ps id.key) pointers) ∙ is)));
  linked = record {
    pins = λ c. ap (times c) pins ∙ (are.linked.pins c ∙ sym (counted c));
    links = λ c. links c ∙ (are.linked.links c ∙ sym (counted c));
  };
} where
  counted : (c : ℕ) → linked_on s' c ≡ linked_on s c
  counted c = ap (λ (y : Site). linked_in (plan_at y) s'.pointers c) home ∙ ap (λ (ps : List (Option Pointer)). linked_in (plan_of s) ps c) pointers

-- an access leaves them so
pub pointers_entered : (s s' : PassState) (d : Stamp) (held : List ℕ) → Enters s d held s' → IsLawful s' → ArePointers s → ArePointers s'
pointers_entered s s' d held e law are = pointers_kept s s' e.goes.home e.goes.number e.pins e.links (ap (λ (y : PassState). y.pointers) e.rest) law are

-- and so does a try that found a cell busy
pub pointers_refused : (s begun s' : PassState) (cell word : ℕ) → begun ≡ s → s' ≡ record begun { hand = refused_at begun.hand cell word } → IsLawful s' → ArePointers s → ArePointers s'
pointers_refused s begun s' cell word same is law are =
    let now : s' ≡ record s { hand = refused_at s.hand cell word } = is ∙ ap (λ (y : PassState). record y { hand = refused_at y.hand cell word }) same in
    subst ArePointers (sym now) (pointers_kept s (record s { hand = refused_at s.hand cell word }) refl refl refl (λ c. refl) refl (subst IsLawful now law) are)

some_present : (o : Option Present) → is_some (frame_of_page o) ≡ true → IsSome o
some_present None is = is
some_present (Some present) is = refl

-- the page in hand, on which the pass has a link, is in a frame
pub held_present : (z : Site) (s : PassState) (at : Addr) (n cell : ℕ) (value : Cell) (page : Pages) (h : HoldsPage z s at n cell value) → value ≡ Page page → IsLawful s → 0 < links_on core_terms s.hand cell → IsSome page.present
held_present z s at n cell value page h is law some =
    let p : ℕ = page_at (plan_of s) at in
    let there : IsSome (frame (seen s) p) = linked_present s law p (subst (λ (c : ℕ). 0 < links_on core_terms s.hand c) h.page.cell_is some) in
    let seen_is : frame_in (part_seen s cell) ≡ frame (seen s) p = ap (λ (c : Numbered). frame_in (part_of (plan_of s) (seals_of s) (seen s) c)) h.page.the_page_is in
    some_present page.present (ap is_some (ap frame_in (seen_part z s at n cell value page h is) ∙ seen_is) ∙ there)

-- what an access may stamp, where the pass's draft says what the access is
pub entered_as : (s drafted s' : PassState) (cell : ℕ) (d : Stamp) → drafted ≡ record s { draft = d } → EntersHeld drafted cell drafted.draft s' → EntersHeld s cell d s'
entered_as s drafted s' cell d is e =
    let e' : EntersHeld (record s { draft = d }) cell d s' = subst (λ (y : PassState). EntersHeld y cell y.draft s') is e in record {
      entered = same_hand s d d (less_one cell s.hand.turns) s' e'.entered;
      before = e'.before;
    }

module _ (s begun mid s' : PassState) (at : Addr) (n : ℕ) (op : Calls) (reply : Reply) (cell word : ℕ) (value : Cell) (same : begun ≡ s) (idle : s.hand.turns ≡ []) (took : TookTurn cell word begun value mid)
    (e : EntersHeld mid cell (access_stamp mid op [] reply) s') (law : IsLawful s') where
  -- an access on a page that the pass links, whose turn was taken
  pub accessed_call : IsAccessAt at n op → 0 < links_on core_terms s.hand (page_cell (plan_of s) (page_at (plan_of s) at)) → HasAccessed s at op reply s'
  accessed_call is some = accessed s s' at n op reply is (entered_call s begun mid s' op reply cell word value same idle took e) law some

  -- leaves the pointers as they are
  pub pointers_after : ArePointers s → ArePointers s'
  pointers_after are = pointers_entered s s' (access_stamp s op [] reply) [] (entered_call s begun mid s' op reply cell word value same idle took e) law are

-- the page's part after the access is what the entry makes of it
pub part_made : (z : Site) (s drafted : PassState) (at : Addr) (n cell : ℕ) (value : Cell) (page : Pages) (h : HoldsPage z s at n cell value) → value ≡ Page page → (d : Stamp) → drafted ≡ record s { draft = d } → (after : Part)
    → after ≡ part_after (plan_of s) (seals_of s) d (the_page (page_at (plan_of s) at)) (part_of_page page) → after ≡ after_at (plan_of drafted) (seals_of drafted) drafted.draft (part_seen drafted) cell
part_made z s drafted at n cell value page h is d drafted_is after made = subst (λ (y : PassState). after ≡ after_at (plan_of y) (seals_of y) y.draft (part_seen y) cell) (sym drafted_is)
    (made ∙ (ap (part_after (plan_of s) (seals_of s) d (the_page (page_at (plan_of s) at))) (seen_part z s at n cell value page h is)
    ∙ ap (λ (c : Numbered). part_after (plan_of s) (seals_of s) d c (part_seen s cell)) (sym h.page.the_page_is)))
