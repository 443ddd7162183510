-- Frames of a list, as a search goes round them, and what it noted of them.
use Rattle.std.specs.Prelude.{◌≡◌, ◌⊎◌, ℕ, ◌+◌, ◌-◌, ◌≤◌, List, length, Bool, true, false, nat_lt, slice_index, ◌<◌, if◌then◌else◌, IsPermutation}
use Rattle.std.specs.List.{AllByRecursion}
use Rattle.eleos_base.specs.declared.memory.Looked.{Looked}
use Rattle.eleos_core.specs.Sweeps.{frames_in}
use Rattle.eleos_base.specs.Words.{is_taken}
use Rattle.eleos_turn.specs.Numbers.{times}
use Rattle.eleos_machine.specs.Notes.{is_noted_free}

-- where a search from this place on comes with its step i, in a list of n
-- its step 0 is at the hand, or at place 0 if the hand is past the end of the list
abbrev pub first_place : ℕ → ℕ → ℕ
first_place hand n = if nat_lt hand n then hand else 0

-- the place of step i of a round from `start` on, which goes on at 0 behind the last place
abbrev pub place_at : ℕ → ℕ → ℕ → ℕ
place_at start i n = if nat_lt (start + i) n then start + i else start + i - n

-- the frame of the step i of a search from this place on
abbrev pub frame_at : List ℕ → ℕ → ℕ → ℕ
frame_at list start i = slice_index list (place_at start i (length list))

-- the place behind this one, the first behind the last
abbrev pub next_place : ℕ → ℕ → ℕ
next_place place n = if nat_lt (place + 1) n then place + 1 else 0

-- the word is 0 or shows pins or BUSY
abbrev pub IsNote : Looked → Type 0
IsNote seen = (seen.word ≡ 0) ⊎ (is_taken seen.word ≡ true)

-- the word shows pins or BUSY
abbrev pub IsTakenNote : Looked → Type 0
IsTakenNote seen = is_taken seen.word ≡ true

-- no frame is noted more often than it stands in the list, and each word is 0, where no free frame is wanted, or shows pins or BUSY
pub record AreNotes (list : List ℕ) (free : Bool) (words : List Looked) : Type 0 where
  pub once : (f : ℕ) → times f (frames_in words) ≤ times f list
  pub notes : AllByRecursion IsNote words
  pub taken : free ≡ true → AllByRecursion IsTakenNote words

-- all frames of the list are noted, each once
pub record AllNoted (list : List ℕ) (free : Bool) (words : List Looked) : Type 0 where
  pub all : IsPermutation (frames_in words) list
  pub notes : AllByRecursion IsNote words
  pub taken : free ≡ true → AllByRecursion IsTakenNote words

-- i steps of a round were made: where all are to be seen each frame that was passed is noted, and a frame that was not is noted as free or not at all
pub record AreSoFar (list : List ℕ) (start i : ℕ) (free all : Bool) (words : List Looked) : Type 0 where
  pub notes : AreNotes list free words
  pub seen : all ≡ true → (j : ℕ) → j < i → 1 ≤ times (frame_at list start j) (frames_in words)
  pub later : (j : ℕ) → i ≤ j → j < length list → is_noted_free (frame_at list start j) words ≡ false → times (frame_at list start j) (frames_in words) ≡ 0
