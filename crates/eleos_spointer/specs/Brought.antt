-- A page that is brought into a frame, since it was wanted there.
use Rattle.std.specs.Prelude.{◌≡◌, ◌⊎◌, ℕ, ◌<◌, ◌≤◌, List, [], ◌∷◌, ◌++◌, length, true, is_some, Option, Some, None, Result, Ok, Err}
use Rattle.eleos_base.specs.declared.memory.Reply.TheVariants.{Done, NoFrame as NoFrames, Tampered as IsTampered}
use Rattle.eleos_base.specs.Lists.{last_of}
use Rattle.eleos_base.specs.Places.{home_of, page_of, sub_of}
use Rattle.eleos_base.specs.Plans.{IsCaller}
use Rattle.eleos_base.specs.Words.{IsBusy}
use Rattle.eleos_core.specs.declared.event.Event.TheVariants.{Fill, Spoiled}
use Rattle.eleos_core.specs.declared.event.Wanted.{Wanted}
use Rattle.eleos_core.specs.Applying.{puts_of}
use Rattle.eleos_core.specs.Evicts.{evict_stamp}
use Rattle.eleos_core.specs.Fills.{fill_stamp}
use Rattle.eleos_core.specs.Legal.{NeedsFrame}
use Rattle.eleos_core.specs.Parts.{Made, block_at, clock_cell, frame_cell, owner_in, page_cell, wanted_refusal_in}
use Rattle.eleos_core.specs.Quiet.{spoiled_stamp, starved_stamp}
use Rattle.eleos_core.specs.State.{History, address_of, places}
use Rattle.eleos_host.specs.declared.port.HostPort.{Ghosts}
use Rattle.eleos_host.specs.declared.port.HostStore as store
use Rattle.eleos_host.specs.Taps.{TapState, failed_block}
use Rattle.eleos_plot.specs.Terms.{core_terms}
use Rattle.eleos_turn.specs.Hands.{links_on, refused_at}
use Rattle.eleos_turn.specs.Numbers.{times}
use Rattle.eleos_machine.specs.declared.holding.ClockTurn.{ClockTurn}
use Rattle.eleos_machine.specs.declared.holding.FreeFrame.{FreeFrame}
use Rattle.eleos_machine.specs.declared.holding.HeldPage.{HeldPage}
use Rattle.eleos_machine.specs.Holding.{HasClock, HasFree, HasPage, HasSole, frame_seen}
use Rattle.eleos_machine.specs.Machines.{Site, plan_at, seals_at}
use Rattle.eleos_machine.specs.Passes.{PassState, part_seen, plan_of, seen}
use Rattle.eleos_pages.specs.Crossed.{HasCrossed, each_at}
use Rattle.eleos_pages.specs.Evicted.{HasEvicted}
use Rattle.eleos_clock.specs.Lists.{AllNoted}
use Rattle.eleos_clock.specs.declared.found.Found.{Found}
use Rattle.eleos_clock.specs.declared.found.Found.TheVariants.{Free, Sole}
use Rattle.eleos_spointer.specs.declared.refusing.LinkRefused.{LinkRefused}
use Rattle.eleos_spointer.specs.declared.refusing.LinkRefused.TheVariants.{NoFrame, Tampered}
use Rattle.eleos_spointer.specs.declared.refusing.TryLinkRefused.{TryLinkRefused}
use Rattle.eleos_spointer.specs.declared.refusing.TryLinkRefused.TheVariants.{Busy, Link}
use Rattle.eleos_spointer.specs.Reached.{Reaches, Stands}

-- the cell of a page that the pass has in hand
abbrev pub cell_of_held : PassState → HeldPage → ℕ
cell_of_held s page = page_cell (plan_of s) page.page

-- plain memory does not refuse what was wanted, by what the pass has seen of the page
abbrev pub Accepts : PassState → HeldPage → Wanted → Type 0
Accepts s page wanted = wanted_refusal_in (plan_of s) s.hand.number wanted (block_at (plan_of s) (part_seen s (cell_of_held s page)) (address_of wanted)) ≡ None

-- the pass is a caller's and has the turn of the page of what was wanted, which needs it in a frame and is not refused
pub record IsWanted (z : Site) (s : PassState) (page : HeldPage) (wanted : Wanted) : Type 0 where
  pub own : s.hand.home ≡ z
  pub caller : IsCaller (plan_of s) s.hand.number
  pub has : HasPage s page.page page.cell
  pub needs : NeedsFrame wanted
  pub page_is : page.page ≡ page_of (plan_of s) (sub_of (plan_of s) (address_of wanted))
  pub accepted : Accepts s page wanted

-- it has two stamps left, no other turn, and no pin that covers no link; this is the page's enclave
pub record MayFetch (z : Site) (s : PassState) (page : HeldPage) (enclave : ℕ) (wanted : Wanted) : Type 0 where
  pub wants : IsWanted z s page wanted
  pub left : 2 ≤ s.hand.left
  pub known : enclave < length (plan_of s).enclaves
  pub home_is : home_of (plan_of s) page.page ≡ Some enclave
  pub turns : s.hand.turns ≡ cell_of_held s page ∷ []
  pub covered : (c : ℕ) → times c s.hand.pins ≤ links_on core_terms s.hand c

-- the page is absent. Beside its turn the pass has that of its enclave's clock cell alone, two stamps, no pin that covers no link, and an empty sweep
pub record MayBring (z : Site) (s : PassState) (page : HeldPage) (clock : ClockTurn) (wanted : Wanted) : Type 0 where
  pub wants : IsWanted z s page wanted
  pub absent : frame_seen s page.page ≡ None
  pub left : 2 ≤ s.hand.left
  pub home : ℕ
  pub home_is : home_of (plan_of s) page.page ≡ Some home
  pub clock_is : HasClock s (Some home) clock
  pub turns : s.hand.turns ≡ clock.number ∷ cell_of_held s page ∷ []
  pub covered : (c : ℕ) → times c s.hand.pins ≤ links_on core_terms s.hand c
  pub no_words : s.sweep.words ≡ []
  pub since_stamp : s.sweep.since_stamp ≡ true

-- the page is absent, and beside its turn the pass has that of a free frame of its enclave alone, and a stamp
pub record MayPutIn (z : Site) (s : PassState) (page : HeldPage) (frame : FreeFrame) (wanted : Wanted) : Type 0 where
  pub wants : IsWanted z s page wanted
  pub absent : frame_seen s page.page ≡ None
  pub left : 0 < s.hand.left
  pub free : HasFree s frame
  pub at_home : owner_in (part_seen s (frame_cell (plan_of s) frame.frame)) ≡ home_of (plan_of s) page.page
  pub turns : s.hand.turns ≡ frame_cell (plan_of s) frame.frame ∷ cell_of_held s page ∷ []

-- the page is absent, and beside its turn the pass has that of its enclave's clock cell alone, and a stamp. In a search that it began after its last stamp
-- it noted each frame of the enclave, with a word that shows pins or BUSY
pub record MayStarve (z : Site) (s : PassState) (page : HeldPage) (clock : ClockTurn) (wanted : Wanted) : Type 0 where
  pub wants : IsWanted z s page wanted
  pub absent : frame_seen s page.page ≡ None
  pub left : 0 < s.hand.left
  pub clock_is : HasClock s (home_of (plan_of s) page.page) clock
  pub turns : s.hand.turns ≡ clock.number ∷ cell_of_held s page ∷ []
  pub noted : AllNoted clock.clock true s.sweep.words
  pub since_stamp : s.sweep.since_stamp ≡ true

-- by its one new entry the pass was refused what it wanted, since each frame of the enclave was taken: the words that it noted show it. No turn is left
pub record HasStarved (s : PassState) (wanted : Wanted) (s' : PassState) : Type 0 where
  pub starved : Made
  pub is : starved.1 ≡ starved_stamp s.hand.number wanted s'.sweep.words (NoFrames s'.sweep.words)
  pub stands : Stands s.hand.home (seen s') starved
  pub reaches : Reaches s (starved ∷ []) [] s'

-- what a search found is in hand
abbrev pub HasFound : PassState → Found → Type 0
HasFound s (Free free) = HasFree s free
HasFound s (Sole sole) = HasSole s sole

module _ {P : Type 0} (port : Ghosts P) (host : store.Ghosts P) where
  -- what was found is this free frame: it was one, or a page left it
  abbrev pub Frees : PassState → TapState P → Found → FreeFrame → PassState → TapState P → Type 0
  Frees s before (Free found) free s' tap = (free ≡ found) × (s' ≡ s) × (tap ≡ before)
  Frees s before (Sole sole) free s' tap = (puts : ℕ) × HasEvicted port host s before sole free puts s' tap

  module _ (z : Site) (all : History) (number : ℕ) where
    -- by this entry of the pass a page left the frame. The tap began once, and since then the host took just the blocks that the entry seals, and gave none.
    pub record HasLeft (page frame : ℕ) (one : Made) (before tap : TapState P) : Type 0 where
      pub is : one.1 ≡ evict_stamp number page frame
      pub stands : Stands z all one
      pub crossed : HasCrossed port host before tap [] (puts_of (plan_at z) (seals_at z) one.1.entry stands.past)

    -- the frame was free, or this page left it
    abbrev pub LeftBy : Option ℕ → ℕ → List Made → TapState P → TapState P → Type 0
    LeftBy None frame made before tap = (made ≡ []) × (tap ≡ before)
    LeftBy (Some page) frame made before tap = (one : Made) × (made ≡ one ∷ []) × HasLeft page frame one before tap

    -- by this entry of the pass the page was put into the frame. The tap began once, and since then the host gave just the blocks of the page's
    -- sealed sub-pages, each once, which are those of the entry, and took none.
    pub record HasPut (page frame : ℕ) (one : Made) (before tap : TapState P) : Type 0 where
      pub blocks : List (List ℕ)
      pub is : one.1 ≡ fill_stamp number page frame blocks Done
      pub stands : Stands z all one
      pub crossed : HasCrossed port host before tap (each_at (places (plan_at z) (Fill page frame) stands.past) blocks) []
      pub unfailed : failed_block tap ≡ None

    -- by this entry of the pass what was wanted was refused, since the last of the blocks that came for its page, that of this place, did not pass. The tap
    -- names that block. The tap began once, and since then the host gave just these blocks, each once, and took none.
    pub record HasFailed (wanted : Wanted) (sub : ℕ) (one : Made) (before tap : TapState P) : Type 0 where
      pub blocks : List (List ℕ)
      pub is : one.1 ≡ spoiled_stamp number wanted blocks (IsTampered sub)
      pub stands : Stands z all one
      pub crossed : HasCrossed port host before tap (each_at (places (plan_at z) (Spoiled wanted) stands.past) blocks) []
      pub failed : failed_block tap ≡ last_of blocks

    -- the page was put into a frame, which was free or which a page left before
    pub record CameIn (page : ℕ) (made : List Made) (before tap : TapState P) : Type 0 where
      pub gone : Option ℕ
      pub frame : ℕ
      pub first : List Made
      pub middle : TapState P
      pub left_by : LeftBy gone frame first before middle
      pub filled : Made
      pub put : HasPut page frame filled middle tap
      pub made_is : made ≡ first ++ filled ∷ []

    -- the page could not be put into a frame, since a block did not pass; a page may have left that frame before
    pub record CameNotIn (wanted : Wanted) (sub : ℕ) (made : List Made) (before tap : TapState P) : Type 0 where
      pub gone : Option ℕ
      pub frame : ℕ
      pub first : List Made
      pub middle : TapState P
      pub left_by : LeftBy gone frame first before middle
      pub spoiled : Made
      pub failed : HasFailed wanted sub spoiled middle tap
      pub made_is : made ≡ first ++ spoiled ∷ []

  -- a free frame of the enclave is in hand, beside the turns that the pass had; a page may have left it
  pub record HasFreed (z : Site) (s : PassState) (before : TapState P) (page : HeldPage) (home : ℕ) (clock : ClockTurn) (free : FreeFrame) (s' : PassState) (tap : TapState P) : Type 0 where
    pub gone : Option ℕ
    pub first : List Made
    pub left_by : LeftBy z (seen s') s.hand.number gone free.frame first before tap
    pub few : length first ≤ 1
    pub reaches : Reaches s first (frame_cell (plan_of s) free.frame ∷ clock.number ∷ cell_of_held s page ∷ []) s'
    pub has : HasFree s' free
    pub owned : owner_in (part_seen s' (frame_cell (plan_of s) free.frame)) ≡ Some home
    pub page_part : part_seen s' (cell_of_held s page) ≡ part_seen s (cell_of_held s page)
    pub clock_is : HasClock s' (Some home) clock

  -- the page is in this frame, put there by the pass's one new entry, and its turn alone is in hand
  pub record HasPutIn (s : PassState) (before : TapState P) (page : HeldPage) (frame : ℕ) (wanted : Wanted) (page' : HeldPage) (s' : PassState) (tap : TapState P) : Type 0 where
    pub filled : Made
    pub put : HasPut s.hand.home (seen s') s.hand.number page.page frame filled before tap
    pub reaches : Reaches s (filled ∷ []) (cell_of_held s page ∷ []) s'
    pub page_is : page'.page ≡ page.page
    pub has : HasPage s' page'.page page'.cell
    pub present : is_some (frame_seen s' page'.page) ≡ true
    pub accepted : Accepts s' page' wanted

  -- what was wanted was refused by the pass's one new entry, since a block did not pass. No turn is left
  pub record FailedIn (s : PassState) (before : TapState P) (wanted : Wanted) (sub : ℕ) (s' : PassState) (tap : TapState P) : Type 0 where
    pub spoiled : Made
    pub failed : HasFailed s.hand.home (seen s') s.hand.number wanted sub spoiled before tap
    pub reaches : Reaches s (spoiled ∷ []) [] s'

  -- what became of a page that was to be put into the frame
  abbrev pub PutsIn : PassState → TapState P → HeldPage → FreeFrame → Wanted → Result HeldPage LinkRefused → PassState → TapState P → Type 0
  PutsIn s before page frame wanted (Ok page') s' tap = HasPutIn s before page frame.frame wanted page' s' tap
  PutsIn s before page frame wanted (Err (Tampered sub)) s' tap = FailedIn s before wanted sub s' tap
  PutsIn s before page frame wanted (Err _) s' tap = ⊥

  -- the pass brought the page into a frame, and has its turn alone
  pub record HasBrought (s : PassState) (before : TapState P) (page : HeldPage) (wanted : Wanted) (page' : HeldPage) (s' : PassState) (tap : TapState P) : Type 0 where
    pub made : List Made
    pub come : CameIn s.hand.home (seen s') s.hand.number page.page made before tap
    pub few : length made ≤ 2
    pub reaches : Reaches s made (cell_of_held s page ∷ []) s'
    pub page_is : page'.page ≡ page.page
    pub has : HasPage s' page'.page page'.cell
    pub present : is_some (frame_seen s' page'.page) ≡ true
    pub accepted : Accepts s' page' wanted

  -- what was wanted was refused, since a block did not pass. No turn is left
  pub record WasSpoiled (s : PassState) (before : TapState P) (wanted : Wanted) (sub : ℕ) (s' : PassState) (tap : TapState P) : Type 0 where
    pub made : List Made
    pub failed : CameNotIn s.hand.home (seen s') s.hand.number wanted sub made before tap
    pub reaches : Reaches s made [] s'

  -- what became of an absent page that was to be brought into a frame
  abbrev pub Brings : PassState → TapState P → HeldPage → Wanted → Result HeldPage LinkRefused → PassState → TapState P → Type 0
  Brings s before page wanted (Ok page') s' tap = HasBrought s before page wanted page' s' tap
  Brings s before page wanted (Err NoFrame) s' tap = HasStarved s wanted s' × (tap ≡ before)
  Brings s before page wanted (Err (Tampered sub)) s' tap = WasSpoiled s before wanted sub s' tap
  Brings s before page wanted (Err _) s' tap = ⊥

  -- the page was in a frame, and nothing was done
  pub record WasThere (s : PassState) (before : TapState P) (page page' : HeldPage) (s' : PassState) (tap : TapState P) : Type 0 where
    pub present : is_some (frame_seen s page.page) ≡ true
    pub same_page : page' ≡ page
    pub same : s' ≡ s
    pub untouched : tap ≡ before

  -- what became of a page that is to be in a frame
  abbrev pub Fetches : PassState → TapState P → HeldPage → Wanted → Result HeldPage LinkRefused → PassState → TapState P → Type 0
  Fetches s before page wanted (Ok page') s' tap = WasThere s before page page' s' tap ⊎ HasBrought s before page wanted page' s' tap
  Fetches s before page wanted (Err refused) s' tap = Brings s before page wanted (Err refused) s' tap

  -- the pass tried the clock cell and found it busy: nothing was stamped, nothing crossed, and no turn is left
  pub record FoundClockBusy (s : PassState) (before : TapState P) (enclave word : ℕ) (s' : PassState) (tap : TapState P) : Type 0 where
    pub busy : IsBusy word
    pub refused : s'.hand.refused ≡ (refused_at s.hand (clock_cell (plan_of s) (Some enclave)) word).refused
    pub reaches : Reaches s [] [] s'
    pub untouched : tap ≡ before

  -- the same of a call that never waits
  abbrev pub TriesFetch : PassState → TapState P → HeldPage → ℕ → Wanted → Result HeldPage TryLinkRefused → PassState → TapState P → Type 0
  TriesFetch s before page enclave wanted (Ok page') s' tap = Fetches s before page wanted (Ok page') s' tap
  TriesFetch s before page enclave wanted (Err (Link refused)) s' tap = Brings s before page wanted (Err refused) s' tap
  TriesFetch s before page enclave wanted (Err (Busy word)) s' tap = FoundClockBusy s before enclave word s' tap
