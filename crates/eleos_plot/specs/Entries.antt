-- What the calls on a draft make of its entry.
use Rattle.std.specs.Prelude.{ℕ, List, [], ◌∷◌, ◌++◌, Bool, true, false}
use Rattle.eleos_base.specs.declared.memory.Looked.{Looked}
use Rattle.eleos_base.specs.declared.memory.Reply.{Reply}
use Rattle.eleos_base.specs.declared.memory.Reply.TheVariants.{Done, NoFrame}
use Rattle.eleos_core.specs.declared.event.Event.{Event}
use Rattle.eleos_core.specs.declared.event.Event.TheVariants.{Starved, Survey, Unlink}
use Rattle.eleos_core.specs.Applying.{stamp_of}
use Rattle.eleos_core.specs.Parts.{Stamp}

-- an entry of nobody
abbrev pub blank_stamp : Stamp
blank_stamp = stamp_of 0 (Unlink 0) [] Done 0

-- one block more
abbrev pub with_block : Stamp → List ℕ → Stamp
with_block d block = record d { entry = record d.entry { blocks = d.entry.blocks ++ block ∷ [] } }

-- an event with a sweep
abbrev pub HasSweep : Event → Type 0
HasSweep (Starved wanted sweep) = Unit {0}
HasSweep (Survey e goal sweep) = Unit {0}
HasSweep _ = ⊥

-- the words that an event's search among frames found, none where it has no sweep
abbrev pub sweep_of : Event → List Looked
sweep_of (Starved wanted sweep) = sweep
sweep_of (Survey e goal sweep) = sweep
sweep_of _ = []

-- one word more in its sweep
abbrev pub event_looked : Event → Looked → Event
event_looked (Starved wanted sweep) word = Starved wanted (sweep ++ word ∷ [])
event_looked (Survey e goal sweep) word = Survey e goal (sweep ++ word ∷ [])
event_looked event word = event

-- and in that of a reply that has one
abbrev pub reply_looked : Reply → Looked → Reply
reply_looked (NoFrame sweep) word = NoFrame (sweep ++ word ∷ [])
reply_looked reply word = reply

-- one word more in the sweep of the entry
abbrev pub with_looked : Stamp → Looked → Stamp
with_looked d word = record d { entry = record d.entry { event = event_looked d.entry.event word; reply = reply_looked d.entry.reply word } }

-- the event is the end of a search by swapper or balloon
abbrev pub is_survey : Event → Bool
is_survey (Survey e goal sweep) = true
is_survey _ = false
