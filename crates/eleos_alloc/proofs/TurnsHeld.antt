-- Stamping while the turns of pages are taken one after another, and given back.
use Rattle.std.proofs.Common.{◌≡◌, ◌≢◌, ⊎_elim, inl, inr, ℕ, ◌+◌, ◌*◌, ◌<◌, List, [], ◌∷◌, Option, Bool, cond, is_some, if◌then◌else◌, slice_index_or, refl, sym, ◌∙◌, ap, subst, arith, eq-eqb}
use mathlib.Core.Logic.{dite}
use native.Mathlib.Decide.{ℕ_discrete}
use Rattle.eleos_base.specs.declared.memory.Op.{Op as Calls}
use Rattle.eleos_base.specs.declared.plan.Plan.{Plan}
use Rattle.eleos_base.specs.Lists.{map_from}
use Rattle.eleos_base.specs.Plain.{is_in_run}
use Rattle.eleos_base.specs.Ties.{Has, neither, adds, takes}
use Rattle.eleos_core.specs.declared.allots.marks.Mark.{Mark}
use Rattle.eleos_core.specs.declared.event.Event.{Event}
use Rattle.eleos_core.specs.declared.event.Event.TheVariants.{Op}
use Rattle.eleos_core.specs.Allots.{marked, page_marked}
use Rattle.eleos_core.specs.Cells.{frame_of_page, sub_parts}
use Rattle.eleos_core.specs.Parts.{Cell as Numbered, MayStep, Part, Stamp, SubPart, alloc_cell, blank_sub, cell_of, foot, page_after, page_cell, page_part, part_after, places_in, sub_after, the_page}
use Rattle.eleos_base.specs.Places.{per_page}
use Rattle.eleos_core.specs.Seals.{Seals}
use Rattle.eleos_core.specs.State.{frame_by}
use Rattle.eleos_core.proofs.Allotting.{Marks}
use Rattle.eleos_core.proofs.ByPlace.{all_at, map_from-same}
use Rattle.eleos_core.proofs.MarkedPages.{IsPagePart, page_is_one}
use Rattle.eleos_core.proofs.Sets.{cell_of-page, pages_differ}
use Rattle.eleos_plot.specs.declared.cell.Cell.{Cell}
use Rattle.eleos_plot.specs.declared.cell.Cell.TheVariants.{Alloc, Clock, Page, Frame}
use Rattle.eleos_plot.specs.Cells.{part_of_cell}
use Rattle.eleos_plot.specs.Fits.{Fits, IsPageCell}
use Rattle.eleos_plot.specs.Terms.{bare_of, core_terms, tie_of}
use Rattle.eleos_plot.proofs.Fitting.{cells_show}
use Rattle.eleos_turn.specs.Hands.{Goes, with_turn}
use Rattle.eleos_turn.specs.Numbers.{less_one}
use Rattle.eleos_turn.proofs.Clients.{goes_given, goes_trans}
use Rattle.eleos_machine.specs.Machines.{Site, all_cells, plan_at}
use Rattle.eleos_machine.specs.Passes.{PassState, TookTurn, gave, part_seen, plan_of, seals_of}
use Rattle.eleos_machine.specs.Stamping.{HasStamped, IsOwnSweep, MayStamp}
use Rattle.eleos_alloc.specs.declared.runs.Run.{Run}
use Rattle.eleos_alloc.specs.Runs.{end_of}
use Rattle.eleos_alloc.specs.Stamping.{CanStampWith, HasStampedWith, IsAhead, IsToTake}

-- a call may be stamped where the turns of its foot are held and it is legal on what was seen of them
pub may_call : (s : PassState) (op : Calls) → s.draft.entry.who ≡ s.hand.number → 0 < s.hand.left → s.draft.entry.event ≡ Op op
    → ((c : ℕ) → Has c (foot (plan_of s) s.draft) → Has c s.hand.turns) → MayStep (plan_of s) (seals_of s) s.draft (part_seen s) → MayStamp s
may_call s op own left event turns legal = record {
  own = own;
  left = left;
  turns = turns;
  legal = legal;
  sweep = subst (IsOwnSweep s) (sym event) tt;
  bare = λ c has. absurd (subst (λ (e : Event). Has c (bare_of (plan_of s) e)) event has);
  covered = λ c is. absurd (let wrong : neither ≡ adds c = subst (λ (e : Event). tie_of (plan_of s) e s.draft.entry.reply ≡ adds c) event is in cc);
  there = λ c is. absurd (let wrong : neither ≡ takes c = subst (λ (e : Event). tie_of (plan_of s) e s.draft.entry.reply ≡ takes c) event is in cc);
}

-- what a stamp leaves
pub stamped_with : (s : PassState) (n : ℕ) (s' : PassState) → HasStamped s n s' → HasStampedWith s s'
stamped_with s n s' is = record {
  place = n;
  goes = is.goes;
  past = is.past;
  sees = is.sees;
  at = is.place;
  legal = is.legal;
  turns = ap (λ hand. hand.turns) is.stamped.now;
  pins = ap (λ hand. hand.pins) is.stamped.now;
  refused = ap (λ hand. hand.refused) is.stamped.now;
  rest = is.rest;
  touched = λ c has in_foot. is.touched c in_foot;
}

-- what the mark makes of a page is what the entry makes of it
module _ (k : Plan) (x : Seals) (d : Stamp) (op : Calls) (mark : Mark) (start len p : ℕ) (event : d.entry.event ≡ Op op) (marks : Marks k x mark d op start len) where
  page_whole : (f : Option ℕ) (us : List SubPart) → IsPagePart (page_part f us) → page_marked mark start len p (page_part f us) ≡ page_after k x d p f us
  page_whole f us holds =
      ap (page_part f) (map_from-same (λ s u. if is_in_run start len s then marked mark (is_some f) u else u) (sub_after k x d (places_in k (Op op) f us) f) (p * 4) us blank_sub
      (λ j h. sym (marks f us (p * 4 + j) (slice_index_or us j blank_sub) (λ absent. all_at (λ (u : SubPart). u.bytes ≡ []) us j blank_sub (holds.1 absent) h))))
      ∙ ap (λ (e : Event). page_part (frame_by e d.entry.reply p f) (map_from (sub_after k x d (places_in k e f us) f) (p * per_page k) us)) (sym event)

  pub page_made : (value : Cell) → IsPageCell k value → page_marked mark start len p (part_of_cell value) ≡ part_after k x d (the_page p) (part_of_cell value)
  page_made (Alloc blocks) fits = absurd fits
  page_made (Clock frames hand) fits = absurd fits
  page_made (Frame frame) fits = absurd fits
  page_made (Page page) fits =
      subst (λ (q : Part). page_marked mark start len p q ≡ part_after k x d (the_page p) q) (sym ((cells_show k).pages page fits))
      (page_whole (frame_of_page page.present) (sub_parts page.subs.items page.present) (page_is_one page.subs.items page.present fits.whole))

-- the pass has the turn of one more page
module _ (s : PassState) (run : Run) (mark : Mark) (page : ℕ) (can : CanStampWith s run mark page) where
  abbrev k : Plan
  k = plan_of s

  abbrev x : Seals
  x = seals_of s

  -- there is no page left
  pub may_stamp : page ≡ end_of run → MayStamp s
  may_stamp last = may_call s can.op can.own can.left can.event
      (λ c in_foot. ⊎_elim (λ (has : Has c s.hand.turns). has) (λ (ahead : IsAhead k page (end_of run) c). absurd (let from = ahead.from in let below = ahead.below in omega arith)) (can.turns c in_foot))
      (can.legal (part_seen s) refl)

  -- there is a page left
  module _ (more : page ≢ end_of run) where
    below : page < end_of run
    below = let within = can.within in omega arith

    -- the turn of this page is the next to take
    pub next : IsToTake s run page
    next = can.ahead page (omega arith) below

    -- its turn was taken
    module _ (n : ℕ) (value : Cell) (s' : PassState) (took : TookTurn (page_cell k page) n s value s') where
      page_fits : IsPageCell k value
      page_fits = subst (λ (cell : Numbered). Fits k cell value) (cell_of-page k page next.exists) took.fits

      abbrev taken : PassState
      taken = record s { hand = with_turn s.hand took.took.more (page_cell k page) n }

      is_taken : s' ≡ taken
      is_taken = took.rest ∙ (λ i. record s { hand = took.took.now i })

      held : (d : ℕ) → Has d s.hand.turns → part_seen taken d ≡ part_seen s d
      held = subst (λ (y : PassState). (d : ℕ) → Has d s.hand.turns → part_seen y d ≡ part_seen s d) is_taken took.held

      goes : Goes core_terms s.hand taken.hand []
      goes = subst (λ (y : PassState). Goes core_terms s.hand y.hand []) is_taken took.goes

      seen_there : part_of_cell value ≡ part_seen taken (page_cell k page)
      seen_there = subst (λ (y : PassState). part_of_cell value ≡ part_seen y (page_cell k page)) is_taken took.value

      still : CanStampWith taken run mark (page + 1)
      still = record {
        made = can.made;
        own = can.own;
        left = can.left;
        op = can.op;
        event = can.event;
        run_is = can.run_is;
        e = can.e;
        home = inr can.home;
        legal = λ b is. can.legal b (is ∙ held (alloc_cell k can.e) can.home);
        turns = λ c in_foot. ⊎_elim (λ (has : Has c s.hand.turns). inl (inr has))
            (λ (ahead : IsAhead k page (end_of run) c). dite (ℕ_discrete ahead.number page)
            (λ same. inl (inl (ahead.is ∙ ap (page_cell k) same)))
            (λ other. inr (record { number = ahead.number; from = (let from = ahead.from in omega arith); below = ahead.below; is = ahead.is })))
            (can.turns c in_foot);
        ahead = λ p from before. let was = can.ahead p (omega arith) before in record {
          exists = was.exists;
          touches = was.touches;
          in_foot = was.in_foot;
          free = λ has. ⊎_elim (λ (same : page_cell k p ≡ page_cell k page). pages_differ k p page (omega arith) same) (λ (there : Has (page_cell k p) s.hand.turns). was.free there) has;
        };
        within = (let before = below in omega arith);
        marks = can.marks;
      }

      can_still : CanStampWith s' run mark (page + 1)
      can_still = subst (λ (y : PassState). CanStampWith y run mark (page + 1)) (sym is_taken) still

      -- and the draft was stamped with the others
      module _ (s2 : PassState) (made : HasStampedWith s' s2) where
        stamped : HasStampedWith taken s2
        stamped = subst (λ (y : PassState). HasStampedWith y s2) is_taken made

        still_has : Has (page_cell k page) s2.hand.turns
        still_has = subst (Has (page_cell k page)) (sym stamped.turns) (inl refl)

        -- the page is what the entry makes of it
        gives_right : (q : Part) → q ≡ page_marked mark run.start run.len page (part_of_cell value) → q ≡ part_seen s2 (page_cell k page)
        gives_right q is = is ∙ (page_made k x s.draft can.op mark run.start run.len page can.event can.marks value page_fits
            ∙ (ap (λ (cell : Numbered). part_after k x s.draft cell (part_of_cell value)) (sym (cell_of-page k page next.exists))
            ∙ (ap (part_after k x s.draft (cell_of k (page_cell k page))) seen_there
            ∙ sym (stamped.touched (page_cell k page) (inl refl) next.in_foot))))

        back : HasStampedWith s (gave s2 (page_cell k page))
        back = record {
          place = stamped.place;
          goes = goes_trans core_terms s.hand taken.hand (gave s2 (page_cell k page)).hand [] ((stamped.place, s.draft) ∷ []) goes
              (goes_trans core_terms taken.hand s2.hand (gave s2 (page_cell k page)).hand ((stamped.place, s.draft) ∷ []) [] stamped.goes (goes_given core_terms (page_cell k page) s2.hand (gave s2 (page_cell k page)).hand refl));
          past = stamped.past;
          sees = stamped.sees;
          at = stamped.at;
          legal = stamped.legal;
          turns = ap (less_one (page_cell k page)) stamped.turns ∙ ap (λ (b : Bool). cond b s.hand.turns (page_cell k page ∷ less_one (page_cell k page) s.hand.turns)) (eq-eqb (page_cell k page) (page_cell k page) refl);
          pins = stamped.pins;
          refused = stamped.refused;
          rest = ap (λ (y : PassState). gave y (page_cell k page)) stamped.rest;
          touched = λ c has in_foot. stamped.touched c (inr has) in_foot ∙ ap (part_after k x s.draft (cell_of k c)) (held c has);
        }

        given_back : (s3 : PassState) → s3 ≡ gave s2 (page_cell k page) → HasStampedWith s s3
        given_back s3 is = subst (HasStampedWith s) (sym is) back

    -- what the turn of the page's cell allows
    pub record AtCell (cell : ℕ) : Type 0 where
      pub within : cell < all_cells k
      pub free : Has cell s.hand.turns → ⊥
      pub fits : (n : ℕ) (value : Cell) (s' : PassState) → TookTurn cell n s value s' → IsPageCell k value
      pub still : (n : ℕ) (value : Cell) (s' : PassState) → TookTurn cell n s value s' → CanStampWith s' run mark (page + 1)
      pub has : (n : ℕ) (value : Cell) (s' s2 : PassState) → TookTurn cell n s value s' → HasStampedWith s' s2 → Has cell s2.hand.turns
      pub right : (n : ℕ) (value : Cell) (s' s2 : PassState) → TookTurn cell n s value s' → HasStampedWith s' s2
          → (q : Part) → q ≡ page_marked mark run.start run.len page (part_of_cell value) → q ≡ part_seen s2 cell
      pub back : (n : ℕ) (value : Cell) (s' s2 s3 : PassState) → TookTurn cell n s value s' → HasStampedWith s' s2 → s3 ≡ gave s2 cell → HasStampedWith s s3

    at_page : AtCell (page_cell k page)
    at_page = record {
      within = (let inside = next.exists in omega arith);
      free = next.free;
      fits = page_fits;
      still = can_still;
      has = λ n value s' s2 took made. still_has n value s' took s2 made;
      right = λ n value s' s2 took made. gives_right n value s' took s2 made;
      back = λ n value s' s2 s3 took made. given_back n value s' took s2 made s3;
    }

    -- the turn of the page's cell allows this also by the cell's number in the code
    pub at_cell : (z : Site) (plan : Plan) (cell : ℕ) → s.hand.home ≡ z → plan ≡ plan_at z → cell ≡ page_cell plan page → AtCell cell
    at_cell z plan cell own plan_is is = subst AtCell (sym (is ∙ ap (λ (k' : Plan). page_cell k' page) (plan_is ∙ ap (λ (y : Site). plan_at y) (sym own)))) at_page
