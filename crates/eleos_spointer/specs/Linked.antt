-- What the calls that link a pointer do.
use Rattle.std.specs.Prelude.{◌≡◌, ◌≢◌, ◌⊎◌, ℕ, ◌+◌, List, [], ◌∷◌, ◌++◌, Some, Result, Ok, Err, slice_set}
use Rattle.eleos_base.specs.declared.memory.Reply.TheVariants as replies
use Rattle.eleos_base.specs.Words.{IsBusy}
use Rattle.eleos_core.specs.declared.event.Wanted.TheVariants.{Link as ALink}
use Rattle.eleos_core.specs.Accesses.{link_stamp}
use Rattle.eleos_core.specs.Parts.{Made, clock_cell}
use Rattle.eleos_host.specs.declared.port.HostPort.{Ghosts}
use Rattle.eleos_host.specs.declared.port.HostStore as store
use Rattle.eleos_host.specs.Taps.{TapState}
use Rattle.eleos_plot.specs.Terms.{core_terms}
use Rattle.eleos_turn.specs.Hands.{Goes, links_on, refused_at}
use Rattle.eleos_machine.specs.declared.holding.HeldPage.{HeldPage}
use Rattle.eleos_machine.specs.declared.pointers.Pointer.{Pointer}
use Rattle.eleos_machine.specs.declared.pointers.SpId.{SpId}
use Rattle.eleos_machine.specs.Holding.{HasPage}
use Rattle.eleos_machine.specs.Passes.{PassState, plan_of, seen}
use Rattle.eleos_machine.specs.Pointers.{cell_under, page_under, place_of}
use Rattle.eleos_spointer.specs.declared.links.Linked.{Linked}
use Rattle.eleos_spointer.specs.declared.links.Linked.TheVariants.{Already, Now}
use Rattle.eleos_spointer.specs.declared.refusing.LinkRefused.{LinkRefused}
use Rattle.eleos_spointer.specs.declared.refusing.LinkRefused.TheVariants.{NoFrame, NotYours, Tampered, Unallocated}
use Rattle.eleos_spointer.specs.declared.refusing.TryLinkRefused.{TryLinkRefused}
use Rattle.eleos_spointer.specs.declared.refusing.TryLinkRefused.TheVariants.{Busy, Link}
use Rattle.eleos_spointer.specs.Brought.{CameIn, HasStarved, WasSpoiled}
use Rattle.eleos_spointer.specs.Judged.{RefusesLink}
use Rattle.eleos_spointer.specs.Ranges.{home_of}
use Rattle.eleos_spointer.specs.Reached.{Reaches, Stands}
use Rattle.eleos_spointer.specs.Tied.{with_link}

-- the pass tried to take the turn of this cell and of no other, and looked at none
pub record TriedOnly (s : PassState) (cell : ℕ) (s' : PassState) : Type 0 where
  pub tried : s'.hand.tried.0 ≡ cell
  pub misses : s'.hand.misses ≡ s.hand.misses
  pub looks : s'.hand.looks ≡ s.hand.looks

-- the pass has the turn of the page under the pointer and no other, and did nothing else
pub record TookPage (s : PassState) (pointer : Pointer) (page : HeldPage) (s' : PassState) : Type 0 where
  pub page_is : page.page ≡ page_under (plan_of s) pointer
  pub has : HasPage s' page.page page.cell
  pub reaches : Reaches s [] (cell_under (plan_of s) pointer ∷ []) s'
  pub refused : s'.hand.refused ≡ s.hand.refused
  pub rest : s' ≡ record s { hand = s'.hand }
  pub only : TriedOnly s (cell_under (plan_of s) pointer) s'

module _ {P : Type 0} (port : Ghosts P) (host : store.Ghosts P) where
  -- the page of the pointer was in a frame, and its cell is the only one that the call tried or looked at; or the pass brought it into a frame by these entries
  abbrev pub IsThere : PassState → TapState P → Pointer → List Made → PassState → TapState P → Type 0
  IsThere s before pointer made s' tap = ((made ≡ []) × TriedOnly s (cell_under (plan_of s) pointer) s' × (tap ≡ before))
      ⊎ CameIn port host s.hand.home (seen s') s.hand.number (page_under (plan_of s) pointer) made before tap

  -- the pointer is linked, by the last entry of the pass. Before it the pass made just the entries that brought the page into a frame. It has one pin and one link
  -- more on that page, and no turn, and nothing else changed of its pins, links and pointers
  pub record HasLinked (s : PassState) (before : TapState P) (id : SpId) (pointer : Pointer) (s' : PassState) (tap : TapState P) : Type 0 where
    pub made : List Made
    pub there : IsThere s before pointer made s' tap
    pub tied : Made
    pub is : tied.1 ≡ link_stamp s.hand.number (place_of pointer) replies.Done
    pub stands : Stands s.hand.home (seen s') tied
    pub goes : Goes core_terms s.hand s'.hand (made ++ tied ∷ [])
    pub turns : s'.hand.turns ≡ []
    pub pins : s'.hand.pins ≡ cell_under (plan_of s) pointer ∷ s.hand.pins
    pub link : links_on core_terms s'.hand (cell_under (plan_of s) pointer) ≡ links_on core_terms s.hand (cell_under (plan_of s) pointer) + 1
    pub links : (c : ℕ) → c ≢ cell_under (plan_of s) pointer → links_on core_terms s'.hand c ≡ links_on core_terms s.hand c
    pub pointers : s'.pointers ≡ slice_set s.pointers id.key (Some (with_link pointer))

  -- what a call that links a pointer did, by its answer
  abbrev pub Links : PassState → TapState P → SpId → Pointer → Result Linked LinkRefused → PassState → TapState P → Type 0
  Links s before id pointer (Ok Already) s' tap = (s' ≡ s) × (tap ≡ before)
  Links s before id pointer (Ok Now) s' tap = HasLinked s before id pointer s' tap
  Links s before id pointer (Err Unallocated) s' tap = RefusesLink s (place_of pointer) replies.Unallocated s' × (tap ≡ before)
  Links s before id pointer (Err (NotYours owner)) s' tap = RefusesLink s (place_of pointer) (replies.NotYours owner) s' × (tap ≡ before)
  Links s before id pointer (Err NoFrame) s' tap = HasStarved s (ALink (place_of pointer)) s' × (tap ≡ before)
  Links s before id pointer (Err (Tampered sub)) s' tap = WasSpoiled port host s before (ALink (place_of pointer)) sub s' tap

  -- this call's try found the cell of the pointer's page, or the clock cell of its enclave, busy: nothing was stamped, and nothing crossed
  pub record LinkBusy (s : PassState) (before : TapState P) (pointer : Pointer) (word : ℕ) (s' : PassState) (tap : TapState P) : Type 0 where
    pub busy : IsBusy word
    pub cell : ℕ
    pub which : (cell ≡ cell_under (plan_of s) pointer) ⊎ (cell ≡ clock_cell (plan_of s) (Some (home_of s)))
    pub refused : s'.hand.refused ≡ (refused_at s.hand cell word).refused
    pub reaches : Reaches s [] [] s'
    pub untouched : tap ≡ before

  -- what a call that links a pointer and never waits did, by its answer
  abbrev pub TriesLink : PassState → TapState P → SpId → Pointer → Result Linked TryLinkRefused → PassState → TapState P → Type 0
  TriesLink s before id pointer (Ok linked) s' tap = Links s before id pointer (Ok linked) s' tap
  TriesLink s before id pointer (Err (Link refused)) s' tap = Links s before id pointer (Err refused) s' tap
  TriesLink s before id pointer (Err (Busy word)) s' tap = LinkBusy s before pointer word s' tap
