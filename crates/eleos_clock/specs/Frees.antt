-- Free frames that are noted.
use Rattle.std.specs.Prelude.{◌≡◌, ◌⊎◌, ℕ, ◌<◌, ◌≤◌, List, [], ◌∷◌, ◌++◌, length, slice_index}
use Rattle.std.specs.List.{AllByRecursion}
use Rattle.eleos_base.specs.declared.memory.Looked.{Looked}
use Rattle.eleos_core.specs.Parts.{frame_cell}
use Rattle.eleos_core.specs.Sweeps.{frames_in}
use Rattle.eleos_turn.specs.Numbers.{less_one, times}
use Rattle.eleos_machine.specs.declared.holding.ClockTurn.{ClockTurn}
use Rattle.eleos_machine.specs.Passes.{PassState, plan_of}
use Rattle.eleos_clock.specs.Searches.{Searches}

-- a note of a free frame
abbrev pub free_note : ℕ → Looked
free_note f = record { frame = f; word = 0 }

-- the frame was noted as free, and its turn given back
pub record NotedFree (s : PassState) (f : ℕ) (s' : PassState) : Type 0 where
  pub searches : Searches s s'
  pub turns : s'.hand.turns ≡ less_one (frame_cell (plan_of s) f) s.hand.turns
  pub words : s'.sweep.words ≡ s.sweep.words ++ free_note f ∷ []

-- the frame was noted as free, or left as it was
pub record TriedToNote (s : PassState) (f : ℕ) (s' : PassState) : Type 0 where
  pub searches : Searches s s'
  pub turns : s'.hand.turns ≡ s.hand.turns
  pub words : (s'.sweep.words ≡ s.sweep.words) ⊎ (s'.sweep.words ≡ s.sweep.words ++ free_note f ∷ [])

-- all notes are of free frames of the list, each at most once
pub record AreFree (list : List ℕ) (words : List Looked) : Type 0 where
  pub once : (f : ℕ) → times f (frames_in words) ≤ times f list
  pub free : AllByRecursion (λ (seen : Looked). seen.word ≡ 0) words

-- frames of the list were noted as free
pub record NotesFree (s : PassState) (clock : ClockTurn) (s' : PassState) : Type 0 where
  pub searches : Searches s s'
  pub turns : s'.hand.turns ≡ s.hand.turns
  pub free : AreFree clock.clock s'.sweep.words

-- the frames before this place were tried
pub record TriedSoFar (s : PassState) (clock : ClockTurn) (place : ℕ) (s' : PassState) : Type 0 where
  pub notes : NotesFree s clock s'
  pub later : (j : ℕ) → place ≤ j → j < length clock.clock → times (slice_index clock.clock j) (frames_in s'.sweep.words) ≡ 0
