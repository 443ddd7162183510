-- What a pass noted in its search among frames.
use Rattle.std.specs.Prelude.{ℕ, ◌==◌, ◌&&◌, ◌||◌, not, nat_lt, List, [], ◌∷◌, ◌++◌, map, filter, Bool, true, false, if◌then◌else◌}
use Rattle.std.specs.List.{list_any}
use Rattle.eleos_base.specs.declared.memory.Looked.{Looked}
use Rattle.eleos_base.specs.Words.{is_busy, pins_in}
use Rattle.eleos_core.specs.declared.event.Event.{Event}
use Rattle.eleos_plot.specs.Entries.{is_survey}

-- the words that it noted, each of a frame, in order
pub record Sweep : Type 0 where
  pub words : List Looked
  -- it was emptied after the pass's last stamp
  pub since_stamp : Bool
  -- it was emptied after the pass's last survey
  pub since_survey : Bool

-- before the first search
abbrev pub no_sweep : Sweep
no_sweep = record { words = []; since_stamp = false; since_survey = false }

-- the frame is noted
abbrev pub names : ℕ → List Looked → Bool
names f words = list_any (λ (seen : Looked). seen.frame == f) words

-- it is noted with 0: the pass had its turn, and it was free
abbrev pub is_noted_free : ℕ → List Looked → Bool
is_noted_free f words = list_any (λ (seen : Looked). seen.frame == f && seen.word == 0) words

-- the notes of free frames
abbrev pub free_notes : List Looked → List Looked
free_notes words = filter (λ (seen : Looked). seen.word == 0) words

-- all notes are forgotten, or all but those of free frames
abbrev pub cleared : Bool → Sweep → Sweep
cleared all sweep = if all then record { words = []; since_stamp = true; since_survey = true } else record sweep { words = free_notes sweep.words }

-- the note, if it is of the frame, as one of a free frame
abbrev pub freed_note : ℕ → Looked → Looked
freed_note f seen = if seen.frame == f then record { frame = f; word = 0 } else seen

-- the frame is noted with 0, in place of another note of it
abbrev pub with_free : ℕ → List Looked → List Looked
with_free f words = if names f words then map (freed_note f) words else words ++ record { frame = f; word = 0 } ∷ []

-- the word is one to note: it shows BUSY, or on a page's cell pins
abbrev pub is_to_note : Bool → ℕ → Bool
is_to_note on_page word = is_busy word || (on_page && nat_lt 0 (pins_in word))

-- the frame is noted with the word, where that is one to note and the frame is not noted with 0
abbrev pub with_word : Bool → ℕ → ℕ → List Looked → List Looked
with_word on_page f word words = if is_to_note on_page word && not (is_noted_free f words) then words ++ record { frame = f; word = word } ∷ [] else words

-- the notes after a stamp of the event
abbrev pub after_entry : Event → Sweep → Sweep
after_entry event sweep = record sweep { since_stamp = false; since_survey = if is_survey event then false else sweep.since_survey }
