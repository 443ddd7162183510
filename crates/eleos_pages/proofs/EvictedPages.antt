-- A page that leaves its frame by a pass: the stamp may be made, and what it leaves.
use Rattle.std.proofs.Common.{◌≡◌, inl, inr, ℕ, ◌*◌, ◌≤◌, ◌^◌, List, [], length, Bool, true, Option, Some, None, option_map, if◌then◌else◌, refl, sym, ◌∙◌, ap, subst, arith, eq-eqb}
use Rattle.std.proofs.lemmas.List.Elements.{All-from_recursion, All-weaker}
use Rattle.eleos_base.specs.declared.memory.Reply.TheVariants.{Done}
use Rattle.eleos_base.specs.declared.plan.Plan.{Plan}
use Rattle.eleos_base.specs.Lists.{map_from}
use Rattle.eleos_base.specs.Plans.{IsGood}
use Rattle.eleos_base.specs.Places.{all_frames, all_pages}
use Rattle.eleos_base.specs.Ties.{Has}
use Rattle.eleos_core.specs.declared.cells.frame.Frame.{Frame as Frames}
use Rattle.eleos_core.specs.declared.cells.page.Page.{Page as Pages}
use Rattle.eleos_core.specs.declared.cells.page.Present.{Present}
use Rattle.eleos_core.specs.declared.cells.sub_page.SubPage.{SubPage}
use Rattle.eleos_core.specs.declared.event.Event.TheVariants.{Evict}
use Rattle.eleos_core.specs.Applying.{page_puts, puts_of}
use Rattle.eleos_core.specs.Cells.{IsPage, IsSubPage, IsUse, frame_of_page, holder_of_use, part_of_frame, part_of_page}
use Rattle.eleos_core.specs.Evicts.{CanLeave, evict_stamp, sealed_blocks, sealed_sub}
use Rattle.eleos_core.specs.Parts.{Part, Stamp, SubPart, frame_cell, frame_in, frame_part, holder_in, no_part, owner_in, page_cell, page_part, part_after, subs_in, the_frame, the_page}
use Rattle.eleos_core.specs.Seals.{Seals}
use Rattle.eleos_core.proofs.Evicting.{blocks_sent, has_bytes, page_evicted, use_within}
use Rattle.eleos_core.proofs.Pieces.{length-sub_parts}
use Rattle.eleos_core.proofs.SealedPuts.{puts_are}
use Rattle.eleos_host.specs.declared.port.HostPort.{Ghosts}
use Rattle.eleos_host.specs.declared.port.HostStore as store
use Rattle.eleos_host.specs.Taps.{TapState, block_of}
use Rattle.eleos_machine.specs.declared.holding.SolePage.{SolePage}
use Rattle.eleos_machine.specs.Holding.{HasSole}
use Rattle.eleos_machine.specs.Machines.{plan_at}
use Rattle.eleos_machine.specs.Passes.{IsLawful, PassState, gave, part_seen, plan_of, seals_of}
use Rattle.eleos_machine.specs.Stamping.{HasStamped}
use Rattle.eleos_plot.specs.declared.cell.Cell.TheVariants.{Frame, Page}
use Rattle.eleos_plot.specs.Cells.{has_page_bytes, part_of_cell}
use Rattle.eleos_plot.proofs.Fitting.{cells_show}
use Rattle.eleos_turn.specs.Numbers.{less_one}
use Rattle.eleos_turn.proofs.Numbers.{has_less}
use Rattle.eleos_pages.specs.Crossed.{Crosses, HasBegun}
use Rattle.eleos_pages.specs.Entered.{Enters}
use Rattle.eleos_pages.specs.Evicted.{HasEvicted}
use Rattle.eleos_pages.proofs.Beginning.{since_begin}
use Rattle.eleos_pages.proofs.CrossedMore.{crosses-same}
use Rattle.eleos_pages.proofs.Ending.{before_stamp, entered, entered_gave, lawful_gave}
use Rattle.eleos_pages.proofs.HeldCells.{cells_differ, frame_becomes, frame_part_seen, has_frame, held_page, other_stays, page_becomes, page_part_seen, turns_stay}
use Rattle.eleos_pages.proofs.OnPages.{same_hand}

-- a page without a frame has all its bytes
absent_whole : (o : Option Present) → frame_of_page o ≡ None → has_page_bytes o ≡ true
absent_whole None gone = refl
absent_whole (Some present) gone = cc

module _ (s : PassState) (sole : SolePage) (page : Pages) (frame : Frames) (has : HasSole s sole) (page_is : sole.page_cell ≡ Page page) (frame_is : sole.frame_cell ≡ Frame frame) where
  abbrev k : Plan
  k = plan_of s

  abbrev x : Seals
  x = seals_of s

  abbrev c : ℕ
  c = page_cell k sole.page

  abbrev fc : ℕ
  fc = frame_cell k sole.frame

  abbrev us : List SubPart
  us = subs_in (part_of_page page)

  abbrev d : Stamp
  d = evict_stamp s.hand.number sole.page sole.frame

  abbrev drafted : PassState
  drafted = record s { draft = d }

  is_page : IsPage k.wear (all_frames k) page
  is_page = held_page s sole.page sole.page_cell page has.page page_is

  page_seen : part_of_page page ≡ part_seen s c
  page_seen = page_part_seen s sole.page sole.page_cell page has.page page_is

  frame_seen : part_of_frame frame ≡ part_seen s fc
  frame_seen = frame_part_seen s sole.frame sole.frame_cell frame has.frame frame_is

  in_frame : frame_of_page page.present ≡ Some sole.frame
  in_frame = ap frame_in page_seen ∙ has.in_frame

  whole : length us ≡ 4
  whole = length-sub_parts page.subs.items page.present ∙ is_page.whole

  -- the page can leave
  pub can_leave : IsGood k → CanLeave page
  can_leave good = record {
    whole = is_page.whole;
    bytes = has_bytes (all_frames k) sole.frame page.present in_frame is_page.present;
    versions = All-weaker (IsSubPage k.wear page.present) (λ (u : SubPage). u.version ≤ 2 ^ 63) (λ u is. let most = is.version in let wear = good.wear in omega arith)
        page.subs.items (All-from_recursion (IsSubPage k.wear page.present) page.subs.items is_page.each);
  }

  -- it was stamped, and these are the page and the frame then
  module _ (n : ℕ) (s' : PassState) (h : HasStamped drafted n s') (law : IsLawful s') (page' : Pages) (frame' : Frames)
      (page_made : part_of_page page' ≡ page_part None (map_from (sealed_sub x) (sole.page * 4) us)) (frame_made : part_of_frame frame' ≡ frame_part frame.owner None) (zero_is : IsUse 0 frame'.used) where
    page_after : part_seen s' c ≡ part_of_page page'
    page_after = page_becomes drafted s' n h sole.page has.page.number (inl refl)
        ∙ (ap (part_after k x d (the_page sole.page)) (sym page_seen)
        ∙ (ap (λ o. part_after k x d (the_page sole.page) (page_part o us)) in_frame
        ∙ sym (page_made ∙ page_evicted k x s.hand.number sole.page sole.frame us whole)))

    frame_after : part_seen s' fc ≡ frame_part frame.owner None
    frame_after = frame_becomes drafted s' n h sole.frame has.frame.number (inr (inl refl))
        ∙ (ap (part_after k x d (the_frame sole.frame)) (sym frame_seen)
        ∙ ap (frame_part frame.owner) (ap (λ (v : Bool). if v then None else holder_of_use frame.used) (eq-eqb sole.frame sole.frame refl)))

    -- the values are what the history made of the cells
    pub page_right : part_of_cell (Page page') ≡ part_seen s' c
    page_right = ap (λ v. if v then part_of_page page' else no_part) (absent_whole page'.present (ap frame_in page_made)) ∙ sym page_after

    frame_right : part_of_cell (Frame frame') ≡ part_seen s' fc
    frame_right = (cells_show k).frames frame' (use_within (all_pages k) frame'.used zero_is) ∙ (frame_made ∙ sym frame_after)

    pub page_turn : Has c s'.hand.turns
    page_turn = subst (Has c) (sym (turns_stay drafted s' n h)) has.page.turn

    -- the page's turn was given back
    abbrev given : PassState
    given = gave s' c

    abbrev enters : Enters s d (less_one c s.hand.turns) given
    enters = same_hand s d d (less_one c s.hand.turns) given (entered_gave drafted s' d s.hand.turns c (entered drafted s' n refl h))

    law' : IsLawful given
    law' = lawful_gave s' c law page_turn

    module _ {P : Type 0} (port : Ghosts P) (host : store.Ghosts P) (before mid tap : TapState P) (gone : ℕ) where
      puts : sealed_blocks x (sole.page * 4) us ≡ puts_of k x d.entry enters.past
      puts = blocks_sent k x s.hand.number sole.page sole.frame us whole
          ∙ (ap (λ o. page_puts k x d sole.page (page_part o us)) (sym in_frame)
          ∙ (ap (page_puts k x d sole.page) (page_seen ∙ sym (before_stamp drafted s' n h law c has.page.turn))
          ∙ puts_are k x enters.past s.hand.number (Evict sole.page sole.frame) [] Done 0 enters.legal))

      -- where just the page's sealed blocks crossed to the host, the page has left its frame
      pub evicted : HasBegun port host before mid → Crosses port host mid tap [] (sealed_blocks x (sole.page * 4) us) → gone ≡ length (sealed_blocks x (sole.page * 4) us) → tap.failed ≡ None
          → HasEvicted port host s before sole (record { frame = sole.frame; cell = Frame frame' }) gone given tap
      evicted begun crossed count passed = record {
        entered = enters;
        crossed = since_begin port host before tap mid [] (puts_of k x d.entry enters.past) begun (crosses-same port host mid tap [] [] (sealed_blocks x (sole.page * 4) us) (puts_of k x d.entry enters.past) refl puts crossed);
        count = count ∙ ap (λ blocks. length blocks) puts;
        unfailed = ap (option_map (block_of tap)) passed;
        frame = refl;
        has = record {
          held = has_frame given law' (Frame frame') k sole.frame (ap plan_at h.goes.home) has.frame.number
              (has_less c fc s'.hand.turns (subst (Has fc) (sym (turns_stay drafted s' n h)) has.frame.turn) (λ e. cells_differ k sole.page sole.frame has.page.number (sym e))) frame_right;
          empty = subst (λ (q : Plan). holder_in (part_seen given (frame_cell q sole.frame)) ≡ None) (sym (ap plan_at h.goes.home)) (ap holder_in frame_after);
        };
        owner = ap owner_in (frame_after ∙ ap (λ (o : Part). frame_part (owner_in o) None) frame_seen);
        parts = λ a turn not_page not_frame. other_stays drafted s' n h a c fc refl turn not_page not_frame;
        lawful = law';
      }
