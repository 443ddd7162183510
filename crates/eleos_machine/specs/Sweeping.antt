-- The calls on a pass's notes.
use Rattle.std.specs.Prelude.{◌≡◌, ◌⊎◌, ℕ, ◌<◌, ◌≤◌, ◌==◌, List, [], length, Bool, not, Some}
use Rattle.eleos_base.specs.declared.memory.Looked.{Looked}
use Rattle.eleos_base.specs.declared.memory.Reply.{Reply}
use Rattle.eleos_base.specs.declared.memory.Reply.TheVariants.{NoFrame}
use Rattle.eleos_base.specs.Ties.{Has}
use Rattle.eleos_core.specs.declared.event.Event.{Event}
use Rattle.eleos_core.specs.declared.event.Event.TheVariants.{Starved, Survey}
use Rattle.eleos_core.specs.Parts.{Stamp, frame_cell, page_cell}
use Rattle.eleos_base.specs.Places.{all_frames}
use Rattle.eleos_plot.specs.Terms.{core_terms}
use Rattle.eleos_turn.specs.Hands.{links_on}
use Rattle.eleos_turn.specs.Numbers.{times}
use Rattle.eleos_machine.specs.Holding.{holder_seen}
use Rattle.eleos_machine.specs.Machines.{all_cells}
use Rattle.eleos_machine.specs.Notes.{with_word}
use Rattle.eleos_machine.specs.Passes.{PassState, plan_of}

-- the cell is that of the page in the frame, whose turn the pass has
pub record IsPageIn (s : PassState) (f c : ℕ) : Type 0 where
  pub turn : Has (frame_cell (plan_of s) f) s.hand.turns
  pub page : ℕ
  pub holds : holder_seen s f ≡ Some page
  pub cell : c ≡ page_cell (plan_of s) page

-- a step on the cell may be noted of the frame: it is the frame's cell or that of the page in it, and the pass has neither its turn nor a
-- pin there that covers no link
pub record MaySweep (s : PassState) (f c : ℕ) : Type 0 where
  pub frame : f < all_frames (plan_of s)
  pub within : c < all_cells (plan_of s)
  pub cell : (c ≡ frame_cell (plan_of s) f) ⊎ IsPageIn s f c
  pub no_turn : Has c s.hand.turns → ⊥
  pub no_pin : times c s.hand.pins ≤ links_on core_terms s.hand c
  pub room : length s.sweep.words < all_frames (plan_of s)

-- the cell is not the frame's own
abbrev pub is_on_page : PassState → ℕ → ℕ → Bool
is_on_page s f c = not (c == frame_cell (plan_of s) f)

-- the pass with other notes
abbrev pub with_words : PassState → List Looked → PassState
with_words s words = record s { sweep = record s.sweep { words = words } }

-- the pass after it noted what a step on the cell found
abbrev pub noted : PassState → ℕ → ℕ → ℕ → PassState
noted s f c word = with_words s (with_word (is_on_page s f c) f word s.sweep.words)

-- the event and the reply with these words, where they have a sweep
abbrev pub event_swept : List Looked → Event → Event
event_swept words (Starved wanted sweep) = Starved wanted words
event_swept words (Survey e goal sweep) = Survey e goal words
event_swept words event = event

-- the reply with these words, where it has a sweep
abbrev pub reply_swept : List Looked → Reply → Reply
reply_swept words (NoFrame sweep) = NoFrame words
reply_swept words reply = reply

-- a draft with these words
abbrev pub swept : List Looked → Stamp → Stamp
swept words d = record d { entry = record d.entry { event = event_swept words d.entry.event; reply = reply_swept words d.entry.reply } }

-- the reply has no words yet
abbrev pub HasNoWords : Reply → Type 0
HasNoWords (NoFrame sweep) = sweep ≡ []
HasNoWords _ = Unit {0}
