-- What a command means, of either kind of trace.
use Rattle.std.specs.Prelude.{ℕ, ◌<◌, ◌*◌, List, Bool, true, false, Option, Some, None, slice_index_or, nat_lt, if◌then◌else◌}
use Rattle.eleos_base.specs.declared.memory.Addr.{Addr}
use Rattle.eleos_base.specs.declared.memory.Op.TheVariants as ops
use Rattle.eleos_base.specs.declared.memory.Part.TheVariants.{Untied}
use Rattle.eleos_base.specs.declared.plan.Plan.{Plan}
use Rattle.eleos_base.specs.Places.{page_counts, page_of, sub_of}
use Rattle.eleos_base.specs.Plans.{page_bytes}
use Rattle.eleos_core.specs.declared.event.Event.{Event}
use Rattle.eleos_core.specs.declared.event.Event.TheVariants as events
use Rattle.eleos_host.specs.declared.hand.Act.{Act}
use Rattle.eleos_host.specs.declared.hand.Act.TheVariants as acts
use Rattle.eleos_report.specs.declared.answer.Answer.{Answer}
use Rattle.eleos_report.specs.declared.answer.Answer.TheVariants.{Illegal}
use Rattle.eleos_trace.specs.declared.word.Word.{Word}
use Rattle.eleos_trace.specs.declared.word.Word.TheVariants.{Alloc, Free, Share, Read, Write, Tie, Untie, Fill, Evict, Move, Flip, SwapPlaces, Keep, Restore}
use Rattle.eleos_meaning.specs.declared.meanings.Meaning.{Meaning}
use Rattle.eleos_meaning.specs.declared.meanings.Meaning.TheVariants.{Nameless, Happens, Offends, Acts}
use Rattle.eleos_meaning.specs.Calls.{at_offset}
use Rattle.eleos_meaning.specs.Names.{Names}

-- the name whose address a command needs, if it needs one
abbrev pub name_used : Word → Option (List ℕ)
name_used (Free name) = Some name
name_used (Share name) = Some name
name_used (Read name offset len) = Some name
name_used (Write name offset bytes) = Some name
name_used (Tie name offset) = Some name
name_used (Untie name offset) = Some name
name_used _ = None

-- what a command means that needs none; a call of the host means no event
abbrev pub meaning_alone : Word → Meaning
meaning_alone (Alloc name bytes) = Happens (events.Op (ops.Alloc bytes))
meaning_alone (Fill page frame) = Happens (events.Fill page frame)
meaning_alone (Evict page frame) = Happens (events.Evict page frame)
meaning_alone (Move frame from to) = Happens (events.Move frame from to)
meaning_alone (Flip place bit) = Acts (acts.Flip place bit)
meaning_alone (SwapPlaces a b) = Acts (acts.Swap a b)
meaning_alone (Keep place) = Acts (acts.Keep place)
meaning_alone (Restore place) = Acts (acts.Restore place)
meaning_alone _ = Nameless

-- an untie: the address has to lie in its enclave
abbrev pub untie_of : Plan → Addr → Meaning
untie_of k at = if nat_lt at.at (page_bytes * slice_index_or (page_counts k) at.enclave 0) then Happens (events.Unlink (page_of k (sub_of k at))) else Offends Untied

-- what a command means whose name has this address
abbrev pub meaning_at : Plan → Word → Addr → Meaning
meaning_at k (Free name) at = Happens (events.Op (ops.Free at))
meaning_at k (Share name) at = Happens (events.Op (ops.Share at))
meaning_at k (Read name offset len) at = Happens (events.Op (ops.Read (at_offset at offset) len))
meaning_at k (Write name offset bytes) at = Happens (events.Op (ops.Write (at_offset at offset) bytes))
meaning_at k (Tie name offset) at = Happens (events.Link (at_offset at offset))
meaning_at k (Untie name offset) at = untie_of k (at_offset at offset)
meaning_at k _ at = Nameless

-- what is meant at an address, where the name has one
abbrev pub at_name : (Addr → Meaning) → Option Addr → Meaning
at_name meant None = Nameless
at_name meant (Some at) = meant at

-- what a command means where names have these addresses, by the name that it needs
abbrev pub meaning_by : Plan → Names → Word → Option (List ℕ) → Meaning
meaning_by k names word None = meaning_alone word
meaning_by k names word (Some name) = at_name (meaning_at k word) (names name)

-- what a command means where names have these addresses
abbrev pub meaning_of : Plan → Names → Word → Meaning
meaning_of k names word = meaning_by k names word (name_used word)

-- an act that a host can do: the bit is one of a block
abbrev pub IsAct : Act → Type 0
IsAct (acts.Flip place bit) = bit < 8192
IsAct act = Unit {0}

-- the event that is meant, if one is
abbrev pub event_of : Meaning → Option Event
event_of (Happens event) = Some event
event_of _ = None

-- the reply says that no entry of the event is legal
abbrev pub is_illegal : Answer → Bool
is_illegal (Illegal part) = true
is_illegal _ = false

-- the event of a command that means this and has this reply: none where its line has no stamp
abbrev pub event_in : Meaning → Answer → Option Event
event_in meaning reply = if is_illegal reply then None else event_of meaning
