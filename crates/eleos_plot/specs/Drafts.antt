-- A draft as the entry that it stands for.
use Rattle.std.specs.Prelude.{◌≡◌, ℕ, zero, suc, ◌*◌, ◌≤◌, List, [], ◌∷◌, length, take, drop, vec_capacity}
use Rattle.eleos_base.specs.declared.memory.Looked.{Looked}
use Rattle.eleos_base.specs.declared.memory.Op.{Op as Calls}
use Rattle.eleos_base.specs.declared.memory.Op.TheVariants as calls
use Rattle.eleos_base.specs.declared.memory.Reply.{Reply}
use Rattle.eleos_base.specs.declared.memory.Reply.TheVariants as replies
use Rattle.eleos_core.specs.declared.event.Event.{Event}
use Rattle.eleos_core.specs.declared.event.Event.TheVariants as events
use Rattle.eleos_core.specs.declared.event.Wanted.{Wanted}
use Rattle.eleos_core.specs.declared.event.Wanted.TheVariants as wanted
use Rattle.eleos_core.specs.Parts.{Stamp}
use Rattle.eleos_core.specs.State.{entry}
use Rattle.eleos_base.specs.declared.sizes.TheConstants.{MOST_WRITTEN}
use Rattle.eleos_plot.specs.declared.draft.TheConstants.{BLOCK_BYTES, MOST_BLOCKS, MOST_LOOKED, MOST_TEXT}
use Rattle.eleos_plot.specs.declared.draft.Draft.TheInside.{Inside}
use Rattle.eleos_plot.specs.declared.refs.EventOf.{EventOf}
use Rattle.eleos_plot.specs.declared.refs.EventOf.TheVariants.{Op, Link, Unlink, Fill, Evict, Move, Starved, Spoiled, Survey}
use Rattle.eleos_plot.specs.declared.refs.OpOf.{OpOf}
use Rattle.eleos_plot.specs.declared.refs.OpOf.TheVariants.{Alloc, Free, Share, Read, Write}
use Rattle.eleos_plot.specs.declared.refs.ReplyOf.{ReplyOf}
use Rattle.eleos_plot.specs.declared.refs.ReplyOf.TheVariants.{Got, Done, Text, BadSize, NoSpace, NotABlock, BadRange, Unallocated, NotYours, Worn, NoFrame, Tampered, Enough, Swept, Reached, Pinned, Short}
use Rattle.eleos_plot.specs.declared.refs.WantedOf.{WantedOf}
use Rattle.eleos_plot.specs.declared.refs.WantedOf.TheVariants.{Link as ALink, Op as ACall}

-- the call, where these bytes are written
abbrev pub op_with : {B : Type 0} → List ℕ → OpOf B → Calls
op_with written (Alloc n) = calls.Alloc n
op_with written (Free at) = calls.Free at
op_with written (Share at) = calls.Share at
op_with written (Read at n) = calls.Read at n
op_with written (Write at bytes) = calls.Write at written

-- what was wanted, a link or a call, where these bytes were to be written
abbrev pub wanted_with : {B : Type 0} → List ℕ → WantedOf B → Wanted
wanted_with written (ALink at) = wanted.Link at
wanted_with written (ACall op) = wanted.Op (op_with written op)

-- the event, where these bytes are written and the sweep has these words
abbrev pub event_with : {B : Type 0} → List ℕ → List Looked → EventOf B → Event
event_with written sweep (Op op) = events.Op (op_with written op)
event_with written sweep (Link at) = events.Link at
event_with written sweep (Unlink p) = events.Unlink p
event_with written sweep (Fill p f) = events.Fill p f
event_with written sweep (Evict p f) = events.Evict p f
event_with written sweep (Move f from to) = events.Move f from to
event_with written sweep (Starved what) = events.Starved (wanted_with written what) sweep
event_with written sweep (Spoiled what) = events.Spoiled (wanted_with written what)
event_with written sweep (Survey e goal) = events.Survey e goal sweep

-- the reply, where it has these bytes and these words
abbrev pub reply_with : {B : Type 0} → List ℕ → List Looked → ReplyOf B → Reply
reply_with text sweep (Got at) = replies.Got at
reply_with text sweep Done = replies.Done
reply_with text sweep (Text bytes) = replies.Text text
reply_with text sweep BadSize = replies.BadSize
reply_with text sweep NoSpace = replies.NoSpace
reply_with text sweep NotABlock = replies.NotABlock
reply_with text sweep BadRange = replies.BadRange
reply_with text sweep Unallocated = replies.Unallocated
reply_with text sweep (NotYours owner) = replies.NotYours owner
reply_with text sweep (Worn s) = replies.Worn s
reply_with text sweep NoFrame = replies.NoFrame sweep
reply_with text sweep (Tampered s) = replies.Tampered s
reply_with text sweep (Enough n) = replies.Enough n
reply_with text sweep (Swept n) = replies.Swept n
reply_with text sweep (Reached n) = replies.Reached n
reply_with text sweep (Pinned n) = replies.Pinned n
reply_with text sweep (Short n) = replies.Short n

-- so many blocks, one after another in these bytes
abbrev pub blocks_in : ℕ → List ℕ → List (List ℕ)
blocks_in zero bytes = []
blocks_in (suc n) bytes = take BLOCK_BYTES bytes ∷ blocks_in n (drop BLOCK_BYTES bytes)

-- the entry of a draft, with the length of its block
abbrev pub draft_of : Inside → Stamp
draft_of a = record {
  entry = entry a.who (event_with a.written.items a.sweep.items a.event) (blocks_in a.count a.blocks.items) (reply_with a.text.items a.sweep.items a.reply);
  len = a.len;
}

-- the room that was taken for every entry, and where its blocks end
pub record IsDraft (a : Inside) : Type 0 where
  pub written : MOST_WRITTEN ≤ vec_capacity a.written
  pub text : MOST_TEXT ≤ vec_capacity a.text
  pub blocks : MOST_BLOCKS * BLOCK_BYTES ≤ vec_capacity a.blocks
  pub sweep : MOST_LOOKED ≤ vec_capacity a.sweep
  pub count : a.count ≤ MOST_BLOCKS
  pub whole : length a.blocks.items ≡ BLOCK_BYTES * a.count
