-- Events and replies as a draft is told of them, with their bytes lent and with empty sweeps.
use Rattle.std.specs.Prelude.{ℕ, List, []}
use Rattle.std.specs.Borrow.{Bor}
use Rattle.eleos_base.specs.declared.memory.Op.{Op as Calls}
use Rattle.eleos_base.specs.declared.memory.Reply.{Reply}
use Rattle.eleos_core.specs.declared.event.Event.{Event}
use Rattle.eleos_core.specs.declared.event.Wanted.{Wanted}
use Rattle.eleos_plot.specs.declared.refs.EventOf.{EventOf}
use Rattle.eleos_plot.specs.declared.refs.EventOf.TheVariants.{Op, Starved, Spoiled}
use Rattle.eleos_plot.specs.declared.refs.OpOf.{OpOf}
use Rattle.eleos_plot.specs.declared.refs.OpOf.TheVariants.{Write}
use Rattle.eleos_plot.specs.declared.refs.ReplyOf.{ReplyOf}
use Rattle.eleos_plot.specs.declared.refs.ReplyOf.TheVariants.{Text}
use Rattle.eleos_plot.specs.declared.refs.WantedOf.{WantedOf}
use Rattle.eleos_plot.specs.declared.refs.WantedOf.TheVariants.{Op as ACall}
use Rattle.eleos_plot.specs.Drafts.{event_with, op_with, reply_with, wanted_with}

-- bytes that are lent
abbrev pub Lent : Type 0
Lent = Bor (List ℕ)

-- the bytes that a call writes, none where it is no write
abbrev pub op_bytes : OpOf Lent → List ℕ
op_bytes (Write at bytes) = bytes.now
op_bytes _ = []

-- the bytes that were to be written, none where no write was wanted
abbrev pub wanted_bytes : WantedOf Lent → List ℕ
wanted_bytes (ACall op) = op_bytes op
wanted_bytes _ = []

-- the bytes that an event writes or wants to write
abbrev pub event_bytes : EventOf Lent → List ℕ
event_bytes (Op op) = op_bytes op
event_bytes (Starved what) = wanted_bytes what
event_bytes (Spoiled what) = wanted_bytes what
event_bytes _ = []

-- the bytes of a reply
abbrev pub reply_bytes : ReplyOf Lent → List ℕ
reply_bytes (Text bytes) = bytes.now
reply_bytes _ = []

-- the call
abbrev pub op_of : OpOf Lent → Calls
op_of op = op_with (op_bytes op) op

-- what was wanted
abbrev pub wanted_of : WantedOf Lent → Wanted
wanted_of what = wanted_with (wanted_bytes what) what

-- the event
abbrev pub event_of : EventOf Lent → Event
event_of event = event_with (event_bytes event) [] event

-- the reply
abbrev pub reply_of : ReplyOf Lent → Reply
reply_of reply = reply_with (reply_bytes reply) [] reply
