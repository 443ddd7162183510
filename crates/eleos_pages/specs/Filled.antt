-- A page that a pass put into a frame, or did not, since a block did not pass.
use Rattle.std.specs.Prelude.{◌≡◌, ◌≢◌, ℕ, ◌<◌, ◌≤◌, [], Some, None}
use Rattle.eleos_base.specs.declared.memory.Reply.TheVariants.{Done as IsDone}
use Rattle.eleos_base.specs.Ties.{Has}
use Rattle.eleos_core.specs.declared.event.Event.TheVariants.{Fill}
use Rattle.eleos_core.specs.Fills.{fill_stamp, sealed_places}
use Rattle.eleos_core.specs.Parts.{Stamp, frame_cell, page_cell, part_after, the_page}
use Rattle.eleos_core.specs.State.{places}
use Rattle.eleos_core.specs.Texts.{IsSpoiledAt}
use Rattle.eleos_host.specs.declared.port.HostPort.{Ghosts}
use Rattle.eleos_host.specs.declared.port.HostStore as store
use Rattle.eleos_host.specs.declared.slot.TheConstants.{SLOTS}
use Rattle.eleos_host.specs.Taps.{TapState, IsAsItCame, failed_block}
use Rattle.eleos_machine.specs.declared.holding.FreeFrame.{FreeFrame}
use Rattle.eleos_machine.specs.declared.holding.HeldPage.{HeldPage}
use Rattle.eleos_machine.specs.Holding.{HasAbsent, HasFree, HasPage, frame_seen}
use Rattle.eleos_machine.specs.Passes.{IsLawful, PassState, part_seen, plan_of, seals_of}
use Rattle.eleos_pages.specs.declared.filling.Filled.{Filled}
use Rattle.eleos_pages.specs.declared.filling.Filled.TheVariants.{Done, Tampered}
use Rattle.eleos_pages.specs.Crossed.{HasCrossed, blocks_below, each_at}
use Rattle.eleos_base.specs.Lists.{last_of}
use Rattle.eleos_pages.specs.Entered.{Enters}
use Rattle.eleos_turn.specs.Numbers.{less_one}

module _ {P : Type 0} where
  -- the stamp of a fill for which the blocks in the first slots came
  abbrev pub filled_by : PassState → HeldPage → FreeFrame → ℕ → TapState P → Stamp
  filled_by s page frame count tap = fill_stamp s.hand.number page.page frame.frame (blocks_below count tap) IsDone

module _ {P : Type 0} (port : Ghosts P) (host : store.Ghosts P) where
  -- the page was put into the frame by the pass's one new entry, with the blocks that came, which are in the first slots as they came. The tap began once,
  -- and since then the host gave just these blocks, each for the next of the places that the fill takes, and took none. The pass has the page's turn still,
  -- and the frame's no more; other cells whose turns it has are as before.
  pub record HasFilled (s : PassState) (before : TapState P) (page : HeldPage) (frame : FreeFrame) (filled : HeldPage) (s' : PassState) (tap : TapState P) : Type 0 where
    pub count : ℕ
    pub entered : Enters s (filled_by s page frame count tap) (less_one (frame_cell (plan_of s) frame.frame) s.hand.turns) s'
    pub crossed : HasCrossed port host before tap (each_at (places (plan_of s) (Fill page.page frame.frame) entered.past) (blocks_below count tap)) []
    pub as_they_came : (slot : ℕ) → slot < count → IsAsItCame tap slot
    pub unfailed : failed_block tap ≡ None
    pub page_is : filled.page ≡ page.page
    pub has : HasPage s' filled.page filled.cell
    pub in_frame : frame_seen s' filled.page ≡ Some frame.frame
    -- what the entry makes of the page's cell
    pub made : part_seen s' (page_cell (plan_of s) page.page) ≡ part_after (plan_of s) (seals_of s) (filled_by s page frame count tap) (the_page page.page) (part_seen s (page_cell (plan_of s) page.page))
    pub parts : (c : ℕ) → Has c s.hand.turns → c ≢ page_cell (plan_of s) page.page → c ≢ frame_cell (plan_of s) frame.frame → part_seen s' c ≡ part_seen s c
    pub lawful : IsLawful s'

  -- a block did not pass. The host gave the blocks of the page's sealed sub-pages up to that of this sub-page, which alone did not pass, each for its place;
  -- they are in the first slots as they came, and the tap names the last of them. Nothing was stamped, and page and frame are in hand as they were.
  pub record HasSpoiled (s : PassState) (before : TapState P) (page : HeldPage) (frame : FreeFrame) (page' : HeldPage) (frame' : FreeFrame) (sub count : ℕ) (s' : PassState) (tap : TapState P) : Type 0 where
    pub few : count ≤ SLOTS
    pub same : s' ≡ s
    pub spoiled : IsSpoiledAt (plan_of s) (seals_of s) page.page (part_seen s (page_cell (plan_of s) page.page)) (blocks_below count tap) sub
    pub crossed : HasCrossed port host before tap (each_at (sealed_places page.page (part_seen s (page_cell (plan_of s) page.page))) (blocks_below count tap)) []
    pub as_they_came : (slot : ℕ) → slot < count → IsAsItCame tap slot
    pub failed : failed_block tap ≡ last_of (blocks_below count tap)
    pub page_is : page'.page ≡ page.page
    pub absent : HasAbsent s page'
    pub frame_is : frame'.frame ≡ frame.frame
    pub free : HasFree s frame'

  -- what a fill does, by its answer
  abbrev pub Fills : PassState → TapState P → HeldPage → FreeFrame → Filled → PassState → TapState P → Type 0
  Fills s before page frame (Done filled) s' tap = HasFilled s before page frame filled s' tap
  Fills s before page frame (Tampered page' frame' sub count) s' tap = HasSpoiled s before page frame page' frame' sub count s' tap
