-- What a history made of the machine, found by looking back. The last entry stands first; `past` is what came before an entry.
use Rattle.std.specs.Prelude.{ℕ, ◌+◌, ◌-◌, List, [], ◌∷◌, ◌++◌, length, filter, map, Bool, true, false, not, ◌==◌, ◌&&◌, ◌||◌, Option, Some, None, is_some, if◌then◌else◌, slice_index}
use Rattle.std.specs.List.{range_with_len}
use Rattle.eleos_base.specs.declared.memory.Addr.{Addr}
use Rattle.eleos_base.specs.declared.memory.Live.{Live}
use Rattle.eleos_base.specs.declared.memory.Op.{Op as Calls}
use Rattle.eleos_base.specs.declared.memory.Op.TheVariants.{Alloc, Free, Share, Read, Write}
use Rattle.eleos_base.specs.declared.memory.Reply.{Reply}
use Rattle.eleos_base.specs.declared.plan.Plan.{Plan}
use Rattle.eleos_base.specs.Plans.{sub_bytes, enclave_of}
use Rattle.eleos_base.specs.Plain as plain
use Rattle.eleos_base.specs.Plain.{Call, is_accepted, opening, memory_of, blocks_after}
use Rattle.eleos_core.specs.declared.event.Entry.{Entry}
use Rattle.eleos_core.specs.declared.event.Event.{Event}
use Rattle.eleos_core.specs.declared.event.Event.TheVariants.{Op, Link, Unlink, Fill, Evict, Move, Starved, Spoiled}
use Rattle.eleos_core.specs.declared.event.Wanted.{Wanted}
use Rattle.eleos_core.specs.declared.event.Wanted.TheVariants.{Link as ALink, Op as ACall}
use Rattle.eleos_base.specs.Runs.{first_of_run, run_with}
use Rattle.eleos_base.specs.Places.{Owner, frame_counts, first_sub, is_sub_of, sub_of, page_of, subs_of, all_subs, blank_bytes}
use Rattle.eleos_core.specs.Seals.{Seals}

-- entries, the last one first
abbrev pub History : Type 0
History = List Entry

-- what an actor did: the event, the blocks that came from the host for it, and the reply
abbrev pub entry : ℕ → Event → List (List ℕ) → Reply → Entry
entry who event blocks reply = record { who = who; event = event; blocks = blocks; reply = reply }

-- the address of what was wanted
abbrev pub call_address : Calls → Addr
call_address (Alloc n) = record { enclave = 0; at = 0 }
call_address (Free at) = at
call_address (Share at) = at
call_address (Read at n) = at
call_address (Write at bytes) = at

-- where the link or the call was wanted
abbrev pub address_of : Wanted → Addr
address_of (ALink at) = at
address_of (ACall op) = call_address op

-- the calls on memory, in their order
abbrev pub call : ℕ → Calls → Reply → List Call
call who op reply = record { who = who; op = op; reply = reply } ∷ []

-- the call that was wanted, none where it was a link
abbrev pub call_wanted : ℕ → Wanted → Reply → List Call
call_wanted who (ALink at) reply = []
call_wanted who (ACall op) reply = call who op reply

-- the call that an event answers: its own, or the one that was wanted; none where it is no call
abbrev pub call_of : ℕ → Event → Reply → List Call
call_of who (Op op) reply = call who op reply
call_of who (Starved wanted sweep) reply = call_wanted who wanted reply
call_of who (Spoiled wanted) reply = call_wanted who wanted reply
call_of who _ reply = []

-- all calls of a history with their replies, the oldest first
abbrev pub calls : History → List Call
calls [] = []
calls (e ∷ past) = calls past ++ call_of e.who e.event e.reply

-- the two owners are one
abbrev pub is_owner : Owner → Owner → Bool
is_owner None None = true
is_owner (Some e) (Some o) = e == o
is_owner _ _ = false

-- the page that is in a frame: that of the last accepted fill, where no evict of it followed
abbrev pub holder_by : Event → Reply → ℕ → Option ℕ → Option ℕ
holder_by (Fill p g) reply f was = if is_accepted reply && f == g then Some p else was
holder_by (Evict p g) reply f was = if f == g then None else was
holder_by _ reply f was = was

-- the page that a history left in the frame; at first there is none
abbrev pub holder : History → ℕ → Option ℕ
holder [] f = None
holder (e ∷ past) f = holder_by e.event e.reply f (holder past f)

-- the frame of a page: that of its last accepted fill, where no evict of it followed
abbrev pub frame_by : Event → Reply → ℕ → Option ℕ → Option ℕ
frame_by (Fill q f) reply p was = if is_accepted reply && p == q then Some f else was
frame_by (Evict q f) reply p was = if p == q then None else was
frame_by _ reply p was = was

-- the frame in which a history left the page; at first there is none
abbrev pub frame : History → ℕ → Option ℕ
frame [] p = None
frame (e ∷ past) p = frame_by e.event e.reply p (frame past p)

-- who owns a frame after an event
abbrev pub owner_by : Event → ℕ → Owner → Owner
owner_by (Move g from to) f was = if f == g then to else was
owner_by _ f was = was

-- the frames of an owner after an event: one that leaves closes the gap, one that joins goes last
abbrev pub frames_by : Owner → Event → List ℕ → List ℕ
frames_by owner (Move g from to) was = if is_owner owner from then filter (λ f. not (f == g)) was else if is_owner owner to then was ++ g ∷ [] else was
frames_by owner _ was = was

module _ (k : Plan) where
  -- an enclave's live blocks, in rising order of start
  abbrev pub live_by : ℕ → ℕ → Event → Reply → List Live → List Live
  live_by e who (Op op) reply blocks = if e == enclave_of k who then blocks_after (sub_bytes k e) e who op reply blocks else blocks
  live_by e who _ reply blocks = blocks

  -- an enclave's live blocks after the history, from the plan's header blocks on
  abbrev pub live : History → ℕ → List Live
  live [] e = (memory_of (opening k) e).blocks
  live (x ∷ past) e = live_by e x.who x.event x.reply (live past e)

  -- who owns a frame
  abbrev pub owner : History → ℕ → Owner
  owner [] f = run_with (frame_counts k) f
  owner (e ∷ past) f = owner_by e.event f (owner past f)

  -- the frames of an owner, in order
  abbrev pub opening_frames : Owner → List ℕ
  opening_frames (Some e) = range_with_len (first_of_run (frame_counts k) e) (slice_index (frame_counts k) e)
  opening_frames None = range_with_len (first_of_run (frame_counts k) (length (frame_counts k))) k.spare

  -- an owner's frames after the history: those of its run at first, then as moves bring and take them
  abbrev pub frames_of : History → Owner → List ℕ
  frames_of [] owner = opening_frames owner
  frames_of (e ∷ past) owner = frames_by owner e.event (frames_of past owner)

  -- the page of the sub-page is in a frame
  abbrev pub is_present : History → ℕ → Bool
  is_present past s = is_some (frame past (page_of k s))

  -- what an entry is to a sub-page: an accepted alloc or free of a block that has it
  abbrev pub covers : ℕ → Event → Reply → History → ℕ → Bool
  covers who (Op op) reply past s = let e = enclave_of k who in is_sub_of k e s && plain.covers (sub_bytes k e) e (live past e) op reply (s - first_sub k e)
  covers who _ reply past s = false

  -- an accepted write to it
  abbrev pub writes : ℕ → Event → Reply → ℕ → Bool
  writes who (Op op) reply s = let e = enclave_of k who in is_sub_of k e s && plain.writes (sub_bytes k e) e op reply (s - first_sub k e)
  writes who _ reply s = false

  -- an accepted fill of its page
  abbrev pub fills : Event → Reply → ℕ → Bool
  fills (Fill p f) reply s = is_accepted reply && page_of k s == p
  fills _ reply s = false

  -- an evict of its page
  abbrev pub evicts : Event → ℕ → Bool
  evicts (Evict p f) s = page_of k s == p
  evicts _ s = false

  -- a text with the bytes that the call writes
  abbrev pub rewritten : ℕ → Event → List ℕ → List ℕ
  rewritten who (Op op) text = plain.rewritten (sub_bytes k (enclave_of k who)) (enclave_of k who) op text
  rewritten who _ text = text

  -- a write in a frame was accepted after the last sealing, alloc or free of the sub-page
  abbrev pub is_dirty : History → ℕ → Bool
  is_dirty [] s = false
  is_dirty (e ∷ past) s = if covers e.who e.event e.reply past s || evicts e.event s then false else if writes e.who e.event e.reply s then is_present past s else is_dirty past s

  -- the entry seals the sub-page: an evict where it is dirty, or a write while its page is absent
  abbrev pub is_sealing : Entry → History → ℕ → Bool
  is_sealing e past s = (evicts e.event s && is_dirty past s) || (writes e.who e.event e.reply s && not (is_present past s))

  -- its version: how often it was sealed
  abbrev pub version : History → ℕ → ℕ
  version [] s = 0
  version (e ∷ past) s = if is_sealing e past s then version past s + 1 else version past s

  -- it was sealed after the last accepted alloc or free that covers it; else it is blank
  abbrev pub is_sealed : History → ℕ → Bool
  is_sealed [] s = false
  is_sealed (e ∷ past) s = if covers e.who e.event e.reply past s then false else if is_sealing e past s then true else is_sealed past s

  -- the places whose blocks an access takes from the host, and those that fill a page
  abbrev pub access_places : History → ℕ → List ℕ
  access_places past s = if is_present past s then [] else filter (is_sealed past) (s ∷ [])

  -- the places of the page's sealed sub-pages, whose blocks a fill takes from the host
  abbrev pub page_places : History → ℕ → List ℕ
  page_places past p = filter (is_sealed past) (subs_of k p)

  -- the places whose blocks the event takes from the host
  abbrev pub places : Event → History → List ℕ
  places (Op (Read at n)) past = access_places past (sub_of k at)
  places (Op (Write at bytes)) past = access_places past (sub_of k at)
  places (Fill p f) past = page_places past p
  places (Spoiled wanted) past = page_places past (page_of k (sub_of k (address_of wanted)))
  places _ past = []

  -- the links that a caller has on a page
  abbrev pub links_by : ℕ → Event → Reply → ℕ → ℕ → ℕ → ℕ
  links_by who (Link at) reply by p was = if is_accepted reply && by == who && p == page_of k (sub_of k at) then was + 1 else was
  links_by who (Unlink q) reply by p was = if by == who && p == q then was - 1 else was
  links_by who _ reply by p was = was

  -- how many links of the page the caller has after the history: an accepted link is one more, an unlink one less
  abbrev pub links : History → ℕ → ℕ → ℕ
  links [] by p = 0
  links (e ∷ past) by p = links_by e.who e.event e.reply by p (links past by p)

-- the block that came for the place
abbrev pub block_for : List ℕ → List (List ℕ) → ℕ → List ℕ
block_for [] blocks s = []
block_for (q ∷ qs) [] s = []
block_for (q ∷ qs) (c ∷ cs) s = if s == q then c else block_for qs cs s

module _ (k : Plan) (x : Seals) where
  -- what the entry finds in an absent sub-page: zeros where blank, else the text that opens from the block that came
  abbrev pub opened : Entry → History → ℕ → List ℕ
  opened e past s = if is_sealed k past s then x.unseal s (version k past s) (block_for (places k e.event past) e.blocks s) else blank_bytes k

  -- the bytes in its page's frame: what the fill found there, and the writes since
  abbrev pub bytes : History → ℕ → List ℕ
  bytes [] s = blank_bytes k
  bytes (e ∷ past) s = if covers k e.who e.event e.reply past s then blank_bytes k
      else if fills k e.event e.reply s then opened e past s
      else if writes k e.who e.event e.reply s && is_present k past s then rewritten k e.who e.event (bytes past s)
      else bytes past s

  -- the text that the entry seals, where it seals the sub-page
  abbrev pub sealing : Entry → History → ℕ → List ℕ
  sealing e past s = if evicts k e.event s then bytes past s else rewritten k e.who e.event (opened e past s)

  -- the block of the last sealing
  abbrev pub last : History → ℕ → List ℕ
  last [] s = []
  last (e ∷ past) s = if is_sealing k e past s then x.seal s (version k past s + 1) (sealing e past s) else last past s

  -- what an access finds in a sub-page, wherever it lies
  abbrev pub found : Entry → History → ℕ → List ℕ
  found e past s = if is_present k past s then bytes past s else opened e past s

-- the sealings of an entry in rising order of place, and all sealings of a history in order: places with versions
abbrev pub sealings_of : Plan → Entry → History → List (ℕ × ℕ)
sealings_of k e past = map (λ s. (s, version k past s + 1)) (filter (is_sealing k e past) (all_subs k))

-- all sealings of a history, those of the oldest entry first
abbrev pub sealings : Plan → History → List (ℕ × ℕ)
sealings k [] = []
sealings k (e ∷ past) = sealings k past ++ sealings_of k e past
