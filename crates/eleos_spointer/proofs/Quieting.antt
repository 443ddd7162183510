-- Entries that leave the page and the clock cell in hand as they are: those of what was refused for want of a frame, or since a block did not pass.
use Rattle.std.proofs.Common.{◌≡◌, ℕ, ◌+◌, ◌*◌, ◌<◌, List, [], ◌∷◌, Option, Some, None, is_some, map, refl, sym, ◌∙◌, ap, subst}
use Rattle.eleos_base.specs.declared.memory.Reply.{Reply}
use Rattle.eleos_base.specs.Places.{Owner, all_pages, per_page}
use Rattle.eleos_base.specs.Ties.{Has}
use Rattle.eleos_core.specs.declared.cells.page.Page.{Page as Pages}
use Rattle.eleos_core.specs.declared.cells.page.Present.{Present}
use Rattle.eleos_core.specs.declared.cells.sub_page.SubPage.{SubPage}
use Rattle.eleos_core.specs.declared.event.Event.{Event}
use Rattle.eleos_core.specs.declared.event.Event.TheVariants.{Spoiled, Starved, Survey}
use Rattle.eleos_base.specs.declared.plan.Plan.{Plan}
use Rattle.eleos_base.specs.Lists.{map_from}
use Rattle.eleos_core.specs.Seals.{Seals}
use Rattle.eleos_core.specs.Applying.{stamp_of}
use Rattle.eleos_core.specs.Cells.{frame_of_page, part_of_page, part_with, sub_parts}
use Rattle.eleos_core.specs.Legal.{IsOwner}
use Rattle.eleos_core.specs.Parts.{Stamp, SubPart, cell_of, clock_cell, clock_part, foot, frame_in, page_cell, page_part, part_after, places_in, sub_after, the_clock, the_page}
use Rattle.eleos_core.specs.Quiet.{IsQuiet}
use Rattle.eleos_plot.specs.declared.cell.Cell.{Cell}
use Rattle.eleos_plot.specs.declared.cell.Cell.TheVariants.{Page}
use Rattle.eleos_plot.specs.Fits.{IsPageCell}
use Rattle.eleos_machine.specs.declared.holding.ClockTurn.{ClockTurn}
use Rattle.eleos_machine.specs.Holding.{HasClock, HasPage, frame_seen}
use Rattle.eleos_machine.specs.Machines.{Site, plan_at}
use Rattle.eleos_machine.specs.Passes.{PassState, part_seen, plan_of, seals_of}
use Rattle.eleos_machine.specs.Stamping.{HasStamped}
use Rattle.eleos_pages.proofs.Ending.{turn_stays}
use Rattle.eleos_pages.proofs.HeldCells.{page_becomes, page_part_seen}

-- the sub-pages of a page that is in no frame have no bytes, so such an entry leaves each as it is
sub_stays : (k : Plan) (x : Seals) (who : ℕ) (blocks : List (List ℕ)) (reply : Reply) (event : Event) → IsQuiet event → (ps : List ℕ) (s : ℕ) (u : SubPage)
    → part_with u [] ≡ sub_after k x (stamp_of who event blocks reply 0) ps None s (part_with u [])
sub_stays k x who blocks reply (Starved wanted sweep) quiet ps s u = refl
sub_stays k x who blocks reply (Spoiled wanted) quiet ps s u = refl
sub_stays k x who blocks reply (Survey e goal sweep) quiet ps s u = refl
sub_stays k x who blocks reply _ quiet ps s u = absurd quiet

subs_stay : (f : ℕ → SubPart → SubPart) → ((s : ℕ) (u : SubPage) → part_with u [] ≡ f s (part_with u [])) → (us : List SubPage) (s : ℕ) → map (λ (u : SubPage). part_with u []) us ≡ map_from f s (map (λ (u : SubPage). part_with u []) us)
subs_stay f same [] s = refl
subs_stay f same (u ∷ us) s = λ i. same s u i ∷ subs_stay f same us (s + 1) i

-- and the page
absent_stays : (k : Plan) (x : Seals) (who : ℕ) (blocks : List (List ℕ)) (reply : Reply) (event : Event) → IsQuiet event → (p : ℕ) (us : List SubPage)
    → page_part None (map (λ (u : SubPage). part_with u []) us) ≡ part_after k x (stamp_of who event blocks reply 0) (the_page p) (page_part None (map (λ (u : SubPage). part_with u []) us))
absent_stays k x who blocks reply (Starved wanted sweep) quiet p us = ap (page_part None) (subs_stay (sub_after k x (stamp_of who (Starved wanted sweep) blocks reply 0) [] None) (sub_stays k x who blocks reply (Starved wanted sweep) quiet []) us (p * per_page k))
absent_stays k x who blocks reply (Spoiled wanted) quiet p us =
    let ps : List ℕ = places_in k (Spoiled wanted) None (map (λ (u : SubPage). part_with u []) us) in
    ap (page_part None) (subs_stay (sub_after k x (stamp_of who (Spoiled wanted) blocks reply 0) ps None) (sub_stays k x who blocks reply (Spoiled wanted) quiet ps) us (p * per_page k))
absent_stays k x who blocks reply (Survey e goal sweep) quiet p us = ap (page_part None) (subs_stay (sub_after k x (stamp_of who (Survey e goal sweep) blocks reply 0) [] None) (sub_stays k x who blocks reply (Survey e goal sweep) quiet []) us (p * per_page k))
absent_stays k x who blocks reply _ quiet p us = absurd quiet

-- so it leaves an absent page, by its cell
page_kept : (k : Plan) (x : Seals) (who : ℕ) (blocks : List (List ℕ)) (reply : Reply) (event : Event) → IsQuiet event → (p : ℕ) (us : List SubPage) (present : Option Present) → frame_of_page present ≡ None
    → page_part (frame_of_page present) (sub_parts us present) ≡ part_after k x (stamp_of who event blocks reply 0) (the_page p) (page_part (frame_of_page present) (sub_parts us present))
page_kept k x who blocks reply event quiet p us None absent = absent_stays k x who blocks reply event quiet p us
page_kept k x who blocks reply event quiet p us (Some present) absent = cc

-- and a clock cell
clock_kept : (k : Plan) (x : Seals) (who : ℕ) (blocks : List (List ℕ)) (reply : Reply) (event : Event) → IsQuiet event → (owner : Owner) (frames : List ℕ)
    → clock_part frames ≡ part_after k x (stamp_of who event blocks reply 0) (the_clock owner) (clock_part frames)
clock_kept k x who blocks reply (Starved wanted sweep) quiet owner frames = refl
clock_kept k x who blocks reply (Spoiled wanted) quiet owner frames = refl
clock_kept k x who blocks reply (Survey e goal sweep) quiet owner frames = refl
clock_kept k x who blocks reply _ quiet owner frames = absurd quiet

module _ (s : PassState) (who : ℕ) (event : Event) (blocks : List (List ℕ)) (reply : Reply) (quiet : IsQuiet event) where
  abbrev d : Stamp
  d = stamp_of who event blocks reply 0

  module _ (n : ℕ) (s' : PassState) (h : HasStamped (record s { draft = d }) n s') where
    -- an absent page that the entry touches has the part that it had
    same_page : (p : ℕ) (cell : Cell) → HasPage s p cell → frame_seen s p ≡ None → Has (page_cell (plan_of s) p) (foot (plan_of s) d) → part_seen s' (page_cell (plan_of s) p) ≡ part_seen s (page_cell (plan_of s) p)
    same_page p cell has absent touched = by_cell cell refl where
      by_page : (held : Pages) → cell ≡ Page held → part_seen s' (page_cell (plan_of s) p) ≡ part_seen s (page_cell (plan_of s) p)
      by_page held is =
          let q : part_of_page held ≡ part_seen s (page_cell (plan_of s) p) = page_part_seen s p cell held has is in
          page_becomes (record s { draft = d }) s' n h p has.number touched
          ∙ (ap (part_after (plan_of s) (seals_of s) d (the_page p)) (sym q)
          ∙ (sym (page_kept (plan_of s) (seals_of s) who blocks reply event quiet p held.subs.items held.present (ap frame_in q ∙ absent)) ∙ q))

      by_cell : (y : Cell) → cell ≡ y → part_seen s' (page_cell (plan_of s) p) ≡ part_seen s (page_cell (plan_of s) p)
      by_cell (Page held) is = by_page held is
      by_cell y is = absurd (subst (IsPageCell (plan_of s)) is has.fits)

    -- the page is in hand still
    pub page_stays : (p : ℕ) (cell : Cell) → HasPage s p cell → frame_seen s p ≡ None → Has (page_cell (plan_of s) p) (foot (plan_of s) d) → HasPage s' p cell
    page_stays p cell has absent touched = record {
      number = subst (λ (y : Site). p < all_pages (plan_at y)) (sym h.goes.home) has.number;
      turn = subst (λ (y : Site). Has (page_cell (plan_at y) p) s'.hand.turns) (sym h.goes.home) (turn_stays (record s { draft = d }) s' n (page_cell (plan_of s) p) h has.turn);
      value = has.value ∙ (sym (same_page p cell has absent touched) ∙ ap (λ (y : Site). part_seen s' (page_cell (plan_at y) p)) (sym h.goes.home));
      fits = subst (λ (y : Site). IsPageCell (plan_at y) cell) (sym h.goes.home) has.fits;
    }

    -- so is the clock cell
    pub clock_stays : (owner : Owner) (clock : ClockTurn) → HasClock s owner clock → cell_of (plan_of s) (clock_cell (plan_of s) owner) ≡ the_clock owner → Has (clock_cell (plan_of s) owner) (foot (plan_of s) d) → HasClock s' owner clock
    clock_stays owner clock has its touched =
        let c : ℕ = clock_cell (plan_of s) owner in
        let here : clock_part clock.clock ≡ part_seen s c = has.value ∙ ap (part_seen s) has.number in
        let after : part_seen s' c ≡ part_after (plan_of s) (seals_of s) d (the_clock owner) (clock_part clock.clock)
        = h.touched c touched ∙ (λ i. part_after (plan_of s) (seals_of s) d (its i) (sym here i)) in record {
          known = subst (λ (y : Site). IsOwner (plan_at y) owner) (sym h.goes.home) has.known;
          number = subst (λ (y : Site). clock.number ≡ clock_cell (plan_at y) owner) (sym h.goes.home) has.number;
          turn = turn_stays (record s { draft = d }) s' n clock.number h has.turn;
          value = clock_kept (plan_of s) (seals_of s) who blocks reply event quiet owner clock.clock ∙ (sym after ∙ ap (part_seen s') (sym has.number));
          hand_within = has.hand_within;
        }

present_is : (present : Option Present) → is_some present ≡ is_some (frame_of_page present)
present_is None = refl
present_is (Some present) = refl

-- the page in hand is in a frame where its cell says so
pub seen_present : (s : PassState) (p : ℕ) (cell : Cell) (page : Pages) → HasPage s p cell → cell ≡ Page page → is_some page.present ≡ is_some (frame_seen s p)
seen_present s p cell page has is = present_is page.present ∙ ap is_some (ap frame_in (page_part_seen s p cell page has is))
