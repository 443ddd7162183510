-- A page that a pass puts into a frame: the stamp may be made, and what it leaves.
use Rattle.std.proofs.Common.{◌≡◌, inl, inr, ℕ, ◌+◌, ◌*◌, ◌<◌, ◌≤◌, List, [], length, Bool, Option, Some, None, if◌then◌else◌, refl, sym, ◌∙◌, ap, subst, arith, eq-eqb}
use Rattle.eleos_base.specs.declared.memory.Reply.TheVariants.{Done}
use Rattle.eleos_base.specs.declared.plan.Plan.{Plan}
use Rattle.eleos_base.specs.Places.{all_pages, per_page}
use Rattle.eleos_base.specs.Ties.{Has}
use Rattle.eleos_core.specs.declared.cells.frame.Frame.{Frame as Frames}
use Rattle.eleos_core.specs.declared.cells.frame.Use.{Use}
use Rattle.eleos_core.specs.declared.cells.frame.Use.TheVariants.{Free, Lent}
use Rattle.eleos_core.specs.declared.cells.page.Page.{Page as Pages}
use Rattle.eleos_core.specs.declared.cells.page.Present.{Present}
use Rattle.eleos_core.specs.declared.event.Event.TheVariants.{Fill}
use Rattle.eleos_core.specs.Cells.{IsPresent, IsUse, frame_of_page, holder_of_use, part_of_frame, part_of_page}
use Rattle.eleos_core.specs.Fills.{IsFree, fill_stamp, sealed_places}
use Rattle.eleos_core.specs.Legal.{ByBlocks, IsOwner, Judged, judged, passed}
use Rattle.eleos_core.specs.Parts.{Part, Stamp, frame_cell, frame_in, holder_in, owner_in, page_cell, part_after, part_of, passes_in, subs_in, the_frame, the_page, verdict_in}
use Rattle.eleos_core.specs.Seals.{Seals}
use Rattle.eleos_core.specs.State.{places}
use Rattle.eleos_core.specs.Texts.{IsSpoiledAt}
use Rattle.eleos_core.proofs.CellNumbers.{page_is, sealed_are}
use Rattle.eleos_host.specs.declared.port.HostPort.{Ghosts}
use Rattle.eleos_host.specs.declared.port.HostStore as store
use Rattle.eleos_host.specs.declared.slot.TheConstants.{SLOTS}
use Rattle.eleos_host.specs.Taps.{TapState, IsAsItCame, failed_block}
use Rattle.eleos_machine.specs.declared.holding.FreeFrame.{FreeFrame}
use Rattle.eleos_machine.specs.declared.holding.HeldPage.{HeldPage}
use Rattle.eleos_machine.specs.Holding.{HasAbsent, HasFree, HasPage}
use Rattle.eleos_machine.specs.Machines.{plan_at}
use Rattle.eleos_machine.specs.Passes.{IsLawful, PassState, gave, part_seen, plan_of, seals_of}
use Rattle.eleos_machine.specs.Stamping.{HasStamped}
use Rattle.eleos_plot.specs.declared.cell.Cell.TheVariants.{Frame, Page}
use Rattle.eleos_plot.specs.Cells.{part_of_cell}
use Rattle.eleos_plot.proofs.Fitting.{cells_show}
use Rattle.eleos_turn.specs.Numbers.{less_one}
use Rattle.eleos_turn.proofs.Numbers.{has_less}
use Rattle.eleos_pages.specs.Crossed.{Crosses, HasBegun, HasCrossed, blocks_below, each_at}
use Rattle.eleos_base.specs.Lists.{last_of}
use Rattle.eleos_pages.specs.Entered.{Enters}
use Rattle.eleos_pages.specs.Filled.{HasFilled, HasSpoiled}
use Rattle.eleos_pages.proofs.Beginning.{since_begin}
use Rattle.eleos_pages.proofs.CrossedMore.{crosses-same}
use Rattle.eleos_pages.proofs.Ending.{before_stamp, entered, entered_gave, lawful_gave}
use Rattle.eleos_pages.proofs.HeldCells.{cells_differ, frame_becomes, frame_part_seen, has_page, held_frame, held_page, other_stays, page_becomes, page_part_seen, turns_stay, use_more}
use Rattle.eleos_pages.proofs.OnPages.{same_hand}
use Rattle.eleos_pages.proofs.PageCells.{page_shows}

-- a page without a frame is absent
no_present : (o : Option Present) → frame_of_page o ≡ None → o ≡ None
no_present None gone = refl
no_present (Some present) gone = cc

-- a use without a page is free
free_use : (n : ℕ) (used : Use) → IsUse n used → holder_of_use used ≡ None → IsFree used
free_use n (Free bytes) zero_is none = zero_is
free_use n (Lent page) below none = cc

-- a free use is right for however many pages
use_of_free : (n : ℕ) (used : Use) → IsFree used → IsUse n used
use_of_free n (Free bytes) zero_is = zero_is
use_of_free n (Lent page) none = absurd none

module _ (s : PassState) (held : HeldPage) (free : FreeFrame) (page : Pages) (frame : Frames) (has : HasAbsent s held) (is_free : HasFree s free) (page_is' : held.cell ≡ Page page) (frame_is' : free.cell ≡ Frame frame) where
  abbrev k : Plan
  k = plan_of s

  abbrev x : Seals
  x = seals_of s

  abbrev p : ℕ
  p = held.page

  abbrev f : ℕ
  f = free.frame

  abbrev c : ℕ
  c = page_cell k p

  abbrev fc : ℕ
  fc = frame_cell k f

  page_seen : part_of_page page ≡ part_seen s c
  page_seen = page_part_seen s p held.cell page has.page page_is'

  frame_seen : part_of_frame frame ≡ part_seen s fc
  frame_seen = frame_part_seen s f free.cell frame is_free.held frame_is'

  -- the page can be put into the frame
  pub absent_page_is : page.present ≡ None
  absent_page_is = no_present page.present (ap frame_in page_seen ∙ has.absent)

  -- the page has four sub-pages
  pub whole_page : length page.subs.items ≡ 4
  whole_page = (held_page s p held.cell page has.page page_is').whole

  -- the frame is free
  pub free_frame_is : IsFree frame.used
  free_frame_is = free_use (all_pages k) frame.used (held_frame s f free.cell frame is_free.held frame_is').used (ap holder_in frame_seen ∙ is_free.empty)

  -- with the blocks in the first slots of a tap, which all passed
  module _ {P : Type 0} (tap : TapState P) (count : ℕ) where
    abbrev cs : List (List ℕ)
    cs = blocks_below count tap

    abbrev d : Stamp
    d = fill_stamp s.hand.number p f cs Done

    abbrev drafted : PassState
    drafted = record s { draft = d }

    -- they pass also by what the pass has seen of the page
    pub passed_seen : judged (passes_in k x (subs_in (part_of_page page))) (sealed_places p (part_of_page page)) cs ≡ passed → ByBlocks (verdict_in k x (Fill p f) cs (part_seen s c)) Done Done
    passed_seen judged_is = subst (λ (j : Judged). ByBlocks j Done Done) (sym (verdict_is ∙ judged_is)) refl
      where
        verdict_is : verdict_in k x (Fill p f) cs (part_seen s c) ≡ judged (passes_in k x (subs_in (part_of_page page))) (sealed_places p (part_of_page page)) cs
        verdict_is = ap (λ (q : Part). judged (passes_in k x (subs_in q)) (sealed_places p q) cs) (sym page_seen)

    -- it was stamped, and these are the page and the frame then
    module _ (n : ℕ) (s' : PassState) (h : HasStamped drafted n s') (law : IsLawful s') (page' : Pages) (frame' : Frames)
        (page_made : part_of_page page' ≡ part_after k x d (the_page p) (part_of_page page)) (frame_made : part_of_frame frame' ≡ part_after k x d (the_frame f) (part_of_frame frame))
        (present : IsPresent (f + 1) page'.present) (used : IsUse (p + 1) frame'.used) where
      page_after : part_seen s' c ≡ part_after k x d (the_page p) (part_seen s c)
      page_after = page_becomes drafted s' n h p has.page.number (inl refl)

      frame_after : part_seen s' fc ≡ part_of_frame frame'
      frame_after = frame_becomes drafted s' n h f is_free.held.number (inr (inl refl)) ∙ (ap (part_after k x d (the_frame f)) (sym frame_seen) ∙ sym frame_made)

      -- the values are what the history made of the cells
      page_right : part_of_cell (Page page') ≡ part_seen s' c
      page_right = page_shows (f + 1) page' present ∙ (page_made ∙ (ap (part_after k x d (the_page p)) page_seen ∙ sym page_after))

      -- the same of the frame
      pub frame_right : part_of_cell (Frame frame') ≡ part_seen s' fc
      frame_right = (cells_show k).frames frame' (use_more (p + 1) (all_pages k) frame'.used (let inside = has.page.number in omega (arith, inside)) used) ∙ sym frame_after

      pub frame_turn : Has fc s'.hand.turns
      frame_turn = subst (Has fc) (sym (turns_stay drafted s' n h)) is_free.held.turn

      -- the page lies in the frame
      in_frame : frame_in (part_seen s' c) ≡ Some f
      in_frame = ap frame_in page_after ∙ ap (λ (v : Bool). if v then Some f else frame_in (part_seen s c)) (eq-eqb p p refl)

      -- the frame's turn was given back
      abbrev given : PassState
      given = gave s' fc

      abbrev enters : Enters s d (less_one fc s.hand.turns) given
      enters = same_hand s d d (less_one fc s.hand.turns) given (entered_gave drafted s' d s.hand.turns fc (entered drafted s' n refl h))

      law' : IsLawful given
      law' = lawful_gave s' fc law frame_turn

      -- the places that the fill takes, by the history before it
      places_are : sealed_places p (part_of_page page) ≡ places k (Fill p f) enters.past
      places_are = ap (sealed_places p) (page_seen ∙ (sym (before_stamp drafted s' n h law c has.page.turn) ∙ ap (part_of k x enters.past) (page_is k p has.page.number)))
          ∙ sealed_are k x enters.past (p * per_page k) (per_page k)

      home_is : plan_of given ≡ k
      home_is = ap plan_at h.goes.home

      -- where just the blocks of the page's sealed places crossed, and none was named, the page lies in the frame
      pub filled : (port : Ghosts P) (host : store.Ghosts P) (before mid : TapState P) → HasBegun port host before mid → Crosses port host mid tap (each_at (sealed_places p (part_of_page page)) cs) []
          → ((slot : ℕ) → slot < count → IsAsItCame tap slot) → failed_block tap ≡ None → HasFilled port host s before held free (record { page = p; cell = Page page' }) given tap
      filled port host before mid begun crossed slots unfailed = record {
        count = count;
        entered = enters;
        crossed = since_begin port host before tap mid (each_at (places k (Fill p f) enters.past) cs) [] begun
            (crosses-same port host mid tap (each_at (sealed_places p (part_of_page page)) cs) (each_at (places k (Fill p f) enters.past) cs) [] [] (ap (λ ps. each_at ps cs) places_are) refl crossed);
        as_they_came = slots;
        unfailed = unfailed;
        page_is = refl;
        has = has_page given law' (Page page') k p home_is has.page.number (has_less fc c s'.hand.turns (subst (Has c) (sym (turns_stay drafted s' n h)) has.page.turn) (cells_differ k p f has.page.number)) page_right;
        in_frame = subst (λ (q : Plan). frame_in (part_seen given (page_cell q p)) ≡ Some f) (sym home_is) in_frame;
        made = page_after;
        parts = λ a turn not_page not_frame. other_stays drafted s' n h a c fc refl turn not_page not_frame;
        lawful = law';
      }

  -- a block did not pass: page and frame are in hand still
  module _ (page' : Pages) (frame' : Frames) (same : page' ≡ page) (frame_same : part_of_frame frame' ≡ part_of_frame frame) (zero_is : IsFree frame'.used) where
    pub absent_still : HasAbsent s (record { page = p; cell = Page page' })
    absent_still = record {
      page = subst (HasPage s p) (page_is' ∙ ap Page (sym same)) has.page;
      absent = has.absent;
    }

    pub free_still : HasFree s (record { frame = f; cell = Frame frame' })
    free_still = record {
      held = record {
        number = is_free.held.number;
        turn = is_free.held.turn;
        value = (cells_show k).frames frame' (use_of_free (all_pages k) frame'.used zero_is) ∙ (frame_same ∙ frame_seen);
        fits = record {
          used = use_of_free (all_pages k) frame'.used zero_is;
          owner = subst (IsOwner k) (sym (ap owner_in frame_same)) (held_frame s f free.cell frame is_free.held frame_is').owner;
        };
      };
      empty = is_free.empty;
    }

    -- where the blocks up to one that did not pass crossed, the fill has failed at its sub-page
    pub spoiled : {P : Type 0} (port : Ghosts P) (host : store.Ghosts P) (before mid tap : TapState P) (count sub : ℕ) → count ≤ SLOTS → HasBegun port host before mid
        → Crosses port host mid tap (each_at (sealed_places p (part_of_page page)) (blocks_below count tap)) [] → IsSpoiledAt k x p (part_of_page page) (blocks_below count tap) sub
        → ((slot : ℕ) → slot < count → IsAsItCame tap slot) → failed_block tap ≡ last_of (blocks_below count tap)
        → HasSpoiled port host s before held free (record { page = p; cell = Page page' }) (record { frame = f; cell = Frame frame' }) sub count s tap
    spoiled port host before mid tap count sub few begun crossed spoiled_is slots failed = record {
      few = few;
      same = refl;
      spoiled = subst (λ (q : Part). IsSpoiledAt k x p q (blocks_below count tap) sub) page_seen spoiled_is;
      crossed = subst (λ (q : Part). HasCrossed port host before tap (each_at (sealed_places p q) (blocks_below count tap)) []) page_seen
          (since_begin port host before tap mid (each_at (sealed_places p (part_of_page page)) (blocks_below count tap)) [] begun crossed);
      as_they_came = slots;
      failed = failed;
      page_is = refl;
      absent = absent_still;
      frame_is = refl;
      free = free_still;
    }
