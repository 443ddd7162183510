-- What a search among the frames of an enclave answers.
use Rattle.std.specs.Prelude.{◌≡◌, ◌⊎◌, ℕ, ◌<◌, List, [], ◌∷◌, ◌++◌, length, Bool, true, false, Option, Some, None, Result, Ok, Err, slice_index}
use Rattle.eleos_base.specs.declared.memory.Looked.{Looked}
use Rattle.eleos_core.specs.Cells.{holder_of_use}
use Rattle.eleos_plot.specs.declared.cell.Cell.{Cell}
use Rattle.eleos_plot.specs.declared.cell.Cell.TheVariants.{Frame}
use Rattle.eleos_core.specs.Parts.{frame_cell, owner_in, page_cell}
use Rattle.eleos_core.specs.Sweeps.{frames_in}
use Rattle.eleos_turn.specs.Numbers.{less_one, times}
use Rattle.eleos_machine.specs.declared.holding.FreeFrame.{FreeFrame}
use Rattle.eleos_machine.specs.declared.holding.SolePage.{SolePage}
use Rattle.eleos_machine.specs.Holding.{HasFree, HasSole}
use Rattle.eleos_machine.specs.Notes.{free_notes, is_noted_free}
use Rattle.eleos_machine.specs.Passes.{PassState, part_seen, plan_of}
use Rattle.eleos_clock.specs.declared.found.Found.{Found}
use Rattle.eleos_clock.specs.declared.found.Found.TheVariants.{Free, Sole}
use Rattle.eleos_clock.specs.declared.found.NoVictim.{NoVictim}
use Rattle.eleos_clock.specs.declared.rounds.FoundAt.{FoundAt}
use Rattle.eleos_machine.specs.declared.holding.ClockTurn.{ClockTurn}
use Rattle.eleos_clock.specs.Lists.{AllNoted, AreNotes, IsNote, IsTakenNote, next_place}
use Rattle.eleos_clock.specs.Searches.{Searches}

-- the frame was found free, and the pass has its turn beside those that it had
pub record FoundFree (s : PassState) (free : FreeFrame) (s' : PassState) : Type 0 where
  pub searches : Searches s s'
  pub has : HasFree s' free
  pub turns : s'.hand.turns ≡ frame_cell (plan_of s) free.frame ∷ s.hand.turns

-- a page that nobody links was found in the frame, and the pass has the turns of both beside those that it had
pub record FoundSole (s : PassState) (sole : SolePage) (s' : PassState) : Type 0 where
  pub searches : Searches s s'
  pub has : HasSole s' sole
  pub turns : s'.hand.turns ≡ page_cell (plan_of s) sole.page ∷ frame_cell (plan_of s) sole.frame ∷ s.hand.turns

-- frames that were noted as free stay so, and those noted since come behind them
abbrev pub KeepsFree : List Looked → List Looked → Type 0
KeepsFree words words' = (more : List Looked) × (free_notes words' ≡ free_notes words ++ more)

-- the find noted nothing, of a frame that is not noted as free
pub record NotesNothing (s : PassState) (f : ℕ) (s' : PassState) : Type 0 where
  pub words : s'.sweep.words ≡ s.sweep.words
  pub unnoted : is_noted_free f s.sweep.words ≡ false

-- what was found in the frame f: a free frame only where one is wanted
abbrev pub FoundIn : PassState → ℕ → Bool → Found → PassState → Type 0
FoundIn s f free (Free found) s' = (free ≡ true) × (found.frame ≡ f) × FoundFree s found s'
FoundIn s f free (Sole found) s' = (found.frame ≡ f) × FoundSole s found s'

-- the frame was passed: it was noted now, or was noted as free before, or it was passed unseen, where not all are to be seen
abbrev pub Notes : Bool → Bool → ℕ → List Looked → List Looked → Type 0
Notes free all f words words' = ((seen : Looked) × (seen.frame ≡ f) × (is_noted_free f words ≡ false) × IsNote seen × (free ≡ true → IsTakenNote seen) × (words' ≡ words ++ seen ∷ []))
    ⊎ ((words' ≡ words) × (all ≡ true → is_noted_free f words ≡ true))

-- the frame was passed, noted or not, and the pass has the turns that it had
pub record Passed (s : PassState) (f : ℕ) (free all : Bool) (s' : PassState) : Type 0 where
  pub searches : Searches s s'
  pub turns : s'.hand.turns ≡ s.hand.turns
  pub notes : Notes free all f s.sweep.words s'.sweep.words

-- a frame whose turn the pass had was passed: its turn was given back
pub record PassedHeld (s : PassState) (f : ℕ) (free all : Bool) (s' : PassState) : Type 0 where
  pub searches : Searches s s'
  pub turns : s'.hand.turns ≡ less_one (frame_cell (plan_of s) f) s.hand.turns
  pub notes : Notes free all f s.sweep.words s'.sweep.words

-- a visit of a free frame whose turn the pass has
abbrev pub SeenFree : PassState → FreeFrame → Bool → Option Found → PassState → Type 0
SeenFree s free wanted None s' = (all : Bool) → PassedHeld s free.frame wanted all s'
SeenFree s free wanted (Some found) s' = (wanted ≡ true) × (found ≡ Free free) × (s' ≡ s) × HasFree s free

-- a visit of a frame that has a page, whose turn the pass has
abbrev pub SeenPage : PassState → ℕ → Bool → Option Found → PassState → Type 0
SeenPage s f all None s' = (free : Bool) → PassedHeld s f free all s'
SeenPage s f all (Some (Free found)) s' = ⊥
SeenPage s f all (Some (Sole found)) s' = (found.frame ≡ f) × Searches s s' × HasSole s' found × (s'.hand.turns ≡ page_cell (plan_of s) found.page ∷ s.hand.turns) × (s'.sweep.words ≡ s.sweep.words)

-- what a visit of the frame came to
abbrev pub Visited : PassState → ℕ → Bool → Bool → Option Found → PassState → Type 0
Visited s f free all None s' = Passed s f free all s'
Visited s f free all (Some found) s' = FoundIn s f free found s' × NotesNothing s f s'

-- what a round found, at its place; where it found nothing and all were to be seen, each frame is noted
pub record RoundFound (s : PassState) (clock : ClockTurn) (free : Bool) (at : FoundAt) (s' : PassState) : Type 0 where
  pub inside : at.place < length clock.clock
  pub found : FoundIn s (slice_index clock.clock at.place) free at.found s'
  pub notes : AreNotes clock.clock free (free_notes s'.sweep.words)
  pub keeps : KeepsFree s.sweep.words s'.sweep.words
  pub fresh : free ≡ false → times (slice_index clock.clock at.place) (frames_in s'.sweep.words) ≡ 0

-- a round passed all frames and found nothing: the turns are as before, and where all were to be seen each frame is noted
pub record RoundPassed (s : PassState) (clock : ClockTurn) (free all : Bool) (s' : PassState) : Type 0 where
  pub searches : Searches s s'
  pub turns : s'.hand.turns ≡ s.hand.turns
  pub notes : AreNotes clock.clock free s'.sweep.words
  pub keeps : KeepsFree s.sweep.words s'.sweep.words
  pub noted : all ≡ true → AllNoted clock.clock free s'.sweep.words

-- what a round came to: this find, or none
abbrev pub Rounds : PassState → ClockTurn → Bool → Bool → Option FoundAt → PassState → Type 0
Rounds s clock free all None s' = RoundPassed s clock free all s'
Rounds s clock free all (Some at) s' = RoundFound s clock free at s'

-- the cell is that of a frame that holds no page
abbrev pub IsFreeCell : Cell → Type 0
IsFreeCell (Frame frame) = holder_of_use frame.used ≡ None
IsFreeCell _ = ⊥

-- a try of one frame alone: it was found free, or nothing stays of the try
abbrev pub TriedFree : PassState → ℕ → Option FreeFrame → PassState → Type 0
TriedFree s f None s' = Searches s s' × (s'.hand.turns ≡ s.hand.turns) × (s'.sweep ≡ s.sweep)
TriedFree s f (Some free) s' = (free.frame ≡ f) × FoundFree s free s' × (s'.sweep.words ≡ s.sweep.words)

-- tries of all frames, one after another, where a free one is wanted
abbrev pub FirstFree : PassState → ClockTurn → Bool → Option FoundAt → PassState → Type 0
FirstFree s clock free None s' = Searches s s' × (s'.hand.turns ≡ s.hand.turns) × (s'.sweep ≡ s.sweep)
FirstFree s clock free (Some at) s' = RoundFound s clock free at s'

-- the hand after this was found at the place: a page moves it behind that
abbrev pub hand_after : ℕ → ℕ → ℕ → Found → ℕ
hand_after hand n place (Free found) = hand
hand_after hand n place (Sole found) = next_place place n

-- the search found this at some place of the list
pub record FoundThere (s : PassState) (list : List ℕ) (hand : ℕ) (free : Bool) (found : Found) (s' : PassState) (hand' : ℕ) : Type 0 where
  pub place : ℕ
  pub inside : place < length list
  pub there : FoundIn s (slice_index list place) free found s'
  -- a search may go on with these notes, where the frame is not noted unless a free one was wanted
  pub notes : AreNotes list free (free_notes s'.sweep.words)
  pub keeps : KeepsFree s.sweep.words s'.sweep.words
  pub fresh : free ≡ false → times (slice_index list place) (frames_in s'.sweep.words) ≡ 0
  pub moves : hand' ≡ hand_after hand (length list) place found

-- it found none: each frame is noted, and the turns are as before
pub record FoundNone (s : PassState) (list : List ℕ) (hand : ℕ) (free : Bool) (s' : PassState) (hand' : ℕ) : Type 0 where
  pub searches : Searches s s'
  pub turns : s'.hand.turns ≡ s.hand.turns
  pub noted : AllNoted list free s'.sweep.words
  pub keeps : KeepsFree s.sweep.words s'.sweep.words
  pub stays : hand' ≡ hand

-- the frame that was found
abbrev pub frame_of : Found → ℕ
frame_of (Free found) = found.frame
frame_of (Sole found) = found.frame

-- the frame that was found is owned by the enclave, as the pass has seen
abbrev pub IsOwned : ℕ → Found → PassState → Type 0
IsOwned e found s' = owner_in (part_seen s' (frame_cell (plan_of s') (frame_of found))) ≡ Some e

-- what the search came to: a find at some place of the list, or none in the whole list
abbrev pub Answers : PassState → List ℕ → ℕ → Bool → Result Found NoVictim → PassState → ℕ → Type 0
Answers s list hand free (Ok found) s' hand' = FoundThere s list hand free found s' hand'
Answers s list hand free (Err none) s' hand' = FoundNone s list hand free s' hand'
