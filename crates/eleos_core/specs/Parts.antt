-- The parts of the machine's cells: what a history made of each, and what an entry makes of the parts of the cells that it touches.
-- What has no meaning has one fixed value: no tag where blank, no bytes where the page is absent.
use Rattle.std.specs.Prelude.{◌≡◌, ℕ, ◌+◌, ◌-◌, ◌*◌, ◌/◌, zero, suc, List, [], ◌∷◌, length, map, Bool, true, false, not, ◌==◌, ◌&&◌, ◌||◌, nat_lt, nat_eq, Option, Some, None, is_some, option_map, unwrap_or, MatchOption, MatchBool, slice_index_or, if◌then◌else◌}
use Rattle.std.specs.List.{find, range_with_len}
use Rattle.std.specs.Cmp.Lexicographic.{pointwise}
use Rattle.eleos_base.specs.declared.memory.Addr.{Addr}
use Rattle.eleos_base.specs.declared.memory.Live.{Live}
use Rattle.eleos_base.specs.declared.memory.Op.{Op as Calls}
use Rattle.eleos_base.specs.declared.memory.Op.TheVariants.{Alloc, Free, Share, Read, Write}
use Rattle.eleos_base.specs.declared.memory.Reply.{Reply}
use Rattle.eleos_base.specs.declared.memory.Reply.TheVariants.{Done, Text, Worn, BadRange, NoFrame, Tampered, Short}
use Rattle.eleos_base.specs.declared.plan.Plan.{Plan}
use Rattle.eleos_base.specs.declared.plot.Event.{Event as Stamped}
use Rattle.eleos_base.specs.Lists.{map_from}
use Rattle.eleos_base.specs.Plans.{enclave_of, sub_bytes}
use Rattle.eleos_base.specs.Plain as plain
use Rattle.eleos_base.specs.Plain.{has_sub, is_accepted, is_good_size, is_in_range, is_in_run, got, starts_at, subs_for, use_refusal}
use Rattle.eleos_core.specs.declared.event.Entry.{Entry}
use Rattle.eleos_core.specs.declared.event.Event.{Event}
use Rattle.eleos_core.specs.declared.event.Event.TheVariants.{Op, Link, Unlink, Fill, Evict, Move, Starved, Spoiled, Survey}
use Rattle.eleos_core.specs.declared.event.Wanted.{Wanted}
use Rattle.eleos_core.specs.declared.event.Wanted.TheVariants.{Link as ALink, Op as ACall}
use Rattle.eleos_core.specs.Legal.{ByBlocks, IsPlainly, IsWithin, Judged, judged, failed}
use Rattle.eleos_base.specs.Places.{Owner, all_frames, all_pages, blank_bytes, first_sub, home_of, page_of, per_page, sub_of, subs, subs_of}
use Rattle.eleos_core.specs.Seals.{Seals}
use Rattle.eleos_core.specs.State.{History, address_of, block_for, bytes, evicts, fills, frame, frame_by, frames_by, frames_of, holder, holder_by, is_dirty, is_present, is_sealed, last, live, live_by, owner, owner_by, rewritten, version, writes}
use Rattle.eleos_core.specs.Sweeps.{IsTaken, SurveyReply}

-- what is kept of a sub-page: the live block that it lies in, how often it was sealed, whether it lies sealed with the host and
-- under which tag, whether a write to it is not sealed yet, and its bytes where its page is in a frame
pub record SubPart : Type 0 where
  pub block : Option Live
  pub version : ℕ
  pub is_sealed : Bool
  pub tag : List ℕ
  pub is_dirty : Bool
  pub bytes : List ℕ

-- a sub-page in no block, never sealed, clean and without bytes
abbrev pub blank_sub : SubPart
blank_sub = record { block = None; version = 0; is_sealed = false; tag = []; is_dirty = false; bytes = [] }

-- an enclave's live blocks; an owner's frames in order; a page's frame and its sub-pages; a frame's owner and its page
pub data Part : Type 0 where
  no_part : Part
  alloc_part : List Live → Part
  clock_part : List ℕ → Part
  page_part : Option ℕ → List SubPart → Part
  frame_part : Owner → Option ℕ → Part

-- the cells
pub data Cell : Type 0 where
  no_cell : Cell
  the_alloc : ℕ → Cell
  the_clock : Owner → Cell
  the_page : ℕ → Cell
  the_frame : ℕ → Cell

-- the enclave's block that has the sub-page
abbrev pub block_in : Plan → ℕ → List Live → ℕ → Option Live
block_in k e blocks s = find (has_sub (s - first_sub k e)) blocks

-- the enclave of a sub-page
abbrev pub home_of_sub : Plan → ℕ → ℕ
home_of_sub k s = unwrap_or (home_of k (page_of k s)) 0

module _ (k : Plan) where
  -- the numbers of the cells: each enclave's alloc cell, each enclave's clock cell, the pool's, the pages, the frames
  abbrev pub alloc_cell : ℕ → ℕ
  alloc_cell e = e

  -- the cell of an owner's list of frames: of an enclave, or of the pool, which comes behind the enclaves
  abbrev pub clock_cell : Owner → ℕ
  clock_cell (Some e) = length k.enclaves + e
  clock_cell None = length k.enclaves + length k.enclaves

  -- the pages come behind the cells of enclaves and pool
  abbrev pub page_cell : ℕ → ℕ
  page_cell p = length k.enclaves + length k.enclaves + 1 + p

  -- the frames come behind the pages
  abbrev pub frame_cell : ℕ → ℕ
  frame_cell f = length k.enclaves + length k.enclaves + 1 + all_pages k + f

  -- the cell with a number counted from the first page on: a page, behind the pages a frame, and none behind the frames
  abbrev pub later_cell : ℕ → Cell
  later_cell i = if nat_lt i (all_pages k) then the_page i else if nat_lt (i - all_pages k) (all_frames k) then the_frame (i - all_pages k) else no_cell

  -- which cell has the number, none where there are not so many
  abbrev pub cell_of : ℕ → Cell
  cell_of c = let n = length k.enclaves in
      if nat_lt c n then the_alloc c else if nat_lt (c - n) n then the_clock (Some (c - n)) else if c - n == n then the_clock None else later_cell (c - (n + n + 1))

module _ (k : Plan) (x : Seals) where
  -- what the history made of each cell
  abbrev pub sub_part : History → ℕ → SubPart
  sub_part past s = record {
    block = block_in k (home_of_sub k s) (live k past (home_of_sub k s)) s;
    version = version k past s;
    is_sealed = is_sealed k past s;
    tag = if is_sealed k past s then x.tag s (version k past s) (last k x past s) else [];
    is_dirty = is_dirty k past s;
    bytes = if is_present k past s then bytes k x past s else [];
  }

  -- what the history made of a cell, by its kind
  abbrev pub part_of : History → Cell → Part
  part_of past no_cell = no_part
  part_of past (the_alloc e) = alloc_part (live k past e)
  part_of past (the_clock owner) = clock_part (frames_of k past owner)
  part_of past (the_page p) = page_part (frame past p) (map (sub_part past) (subs_of k p))
  part_of past (the_frame f) = frame_part (owner k past f) (holder past f)

  -- what it made of the cell with this number
  abbrev pub part_at : History → ℕ → Part
  part_at past c = part_of past (cell_of k c)

-- the fields of a part of the wanted kind
abbrev pub live_in : Part → List Live
live_in (alloc_part blocks) = blocks
live_in _ = []

-- the frame that the page is in, none where it is absent
abbrev pub frame_in : Part → Option ℕ
frame_in (page_part f us) = f
frame_in _ = None

-- the sub-pages of a page
abbrev pub subs_in : Part → List SubPart
subs_in (page_part f us) = us
subs_in _ = []

-- the page in a frame, none where the frame is free
abbrev pub holder_in : Part → Option ℕ
holder_in (frame_part owner p) = p
holder_in _ = None

-- who owns a frame, none where it is the pool's
abbrev pub owner_in : Part → Owner
owner_in (frame_part owner p) = owner
owner_in _ = None

-- the frames of an owner in order
abbrev pub list_in : Part → List ℕ
list_in (clock_part fs) = fs
list_in _ = []

-- an entry that is to be made, with the length of the block that it frees or shares, in sub-pages
pub record Stamp : Type 0 where
  pub entry : Entry
  pub len : ℕ

-- a stamped entry, with its place in the history
abbrev pub Made : Type 0
Made = ℕ × Stamp

-- a turnstile's history of the machine, the first entry first
abbrev pub Entries : Type 0
Entries = List (Stamped Stamp Part)

-- the pages that a run of sub-pages touches
abbrev pub pages_of_run : Plan → ℕ → ℕ → List ℕ
pages_of_run k start zero = []
pages_of_run k start (suc n) = range_with_len (page_of k start) (page_of k (start + n) - page_of k start + 1)

-- the sealed sub-pages among these, the first of which has the number s
abbrev pub sealed_from : ℕ → List SubPart → List ℕ
sealed_from s [] = []
sealed_from s (u ∷ us) = if u.is_sealed then s ∷ sealed_from (s + 1) us else sealed_from (s + 1) us

module _ (k : Plan) where
  -- the first sub-page of the block that a call allots, frees or shares
  abbrev pub start_of : ℕ → Calls → Reply → ℕ
  start_of who (Alloc n) reply = first_sub k (enclave_of k who) + got reply / sub_bytes k (enclave_of k who)
  start_of who (Free at) reply = first_sub k (enclave_of k who) + at.at / sub_bytes k (enclave_of k who)
  start_of who (Share at) reply = first_sub k (enclave_of k who) + at.at / sub_bytes k (enclave_of k who)
  start_of who _ reply = 0

  -- and how many sub-pages that block has, none where the call is refused or is an access
  abbrev pub len_of : ℕ → Calls → Reply → ℕ → ℕ
  len_of who (Alloc n) reply len = if is_accepted reply then subs_for (sub_bytes k (enclave_of k who)) n else 0
  len_of who (Free at) reply len = if is_accepted reply then len else 0
  len_of who (Share at) reply len = if is_accepted reply then len else 0
  len_of who _ reply len = 0

  -- the sub-page lies in that block
  abbrev pub is_in_block : ℕ → Event → Reply → ℕ → ℕ → Bool
  is_in_block who (Op op) reply len s = is_in_run (start_of who op reply) (len_of who op reply len) s
  is_in_block who _ reply len s = false

  -- and is zeroed with it
  abbrev pub is_zeroed : ℕ → Event → Reply → ℕ → ℕ → Bool
  is_zeroed who (Op (Share at)) reply len s = false
  is_zeroed who event reply len s = is_in_block who event reply len s

  -- the block that the sub-page then lies in
  abbrev pub block_by : ℕ → Event → Reply → Option Live → Option Live
  block_by who (Op (Alloc n)) reply was = let size = sub_bytes k (enclave_of k who) in Some (record { start = got reply / size; len = subs_for size n; owner = who; is_shared = false })
  block_by who (Op (Free at)) reply was = None
  block_by who (Op (Share at)) reply was = option_map (λ (block : Live). record block { is_shared = true }) was
  block_by who _ reply was = was

  -- the cell of the page of an access that is in range
  abbrev pub access_foot : ℕ → Addr → ℕ → List ℕ
  access_foot who at n = let e = enclave_of k who in if is_in_range (sub_bytes k e) e (subs k e) at n then page_cell k (page_of k (sub_of k at)) ∷ [] else []

  -- the cells of the pages of the block
  abbrev pub block_foot : ℕ → Calls → Reply → ℕ → List ℕ
  block_foot who op reply len = map (page_cell k) (pages_of_run k (start_of who op reply) (len_of who op reply len))

  -- the cells that a call touches
  abbrev pub call_foot : ℕ → Calls → Reply → ℕ → List ℕ
  call_foot who (Alloc n) reply len = if is_good_size n then alloc_cell k (enclave_of k who) ∷ block_foot who (Alloc n) reply len else []
  call_foot who (Free at) reply len = alloc_cell k (enclave_of k who) ∷ block_foot who (Free at) reply len
  call_foot who (Share at) reply len = alloc_cell k (enclave_of k who) ∷ block_foot who (Share at) reply len
  call_foot who (Read at n) reply len = access_foot who at n
  call_foot who (Write at new) reply len = access_foot who at (length new)

  -- the clock cell of a survey's enclave, and the pool's where the answer speaks of its frames
  abbrev pub survey_foot : ℕ → Reply → List ℕ
  survey_foot e (Short share) = clock_cell k (Some e) ∷ clock_cell k None ∷ []
  survey_foot e reply = clock_cell k (Some e) ∷ []

  -- the cells that an event touches
  abbrev pub foot_of : ℕ → Event → Reply → ℕ → List ℕ
  foot_of who (Op op) reply len = call_foot who op reply len
  foot_of who (Link at) reply len = access_foot who at 1
  foot_of who (Unlink p) reply len = []
  foot_of who (Fill p f) reply len = page_cell k p ∷ frame_cell k f ∷ []
  foot_of who (Evict p f) reply len = page_cell k p ∷ frame_cell k f ∷ []
  foot_of who (Move f from to) reply len = frame_cell k f ∷ clock_cell k from ∷ clock_cell k to ∷ []
  foot_of who (Starved wanted sweep) reply len = let p = page_of k (sub_of k (address_of wanted)) in page_cell k p ∷ clock_cell k (home_of k p) ∷ []
  foot_of who (Spoiled wanted) reply len = page_cell k (page_of k (sub_of k (address_of wanted))) ∷ []
  foot_of who (Survey e goal sweep) reply len = survey_foot e reply

  -- the cells that an entry touches when it is made
  abbrev pub foot : Stamp → List ℕ
  foot d = foot_of d.entry.who d.entry.event d.entry.reply d.len

  -- the part of a sub-page among those of its page
  abbrev pub sub_in : List SubPart → ℕ → SubPart
  sub_in us s = slice_index_or us (s - page_of k s * per_page k) blank_sub

  -- the places whose blocks the event takes, by the part of the page
  abbrev pub access_places_in : ℕ → Option ℕ → List SubPart → List ℕ
  access_places_in s f us = if is_some f then [] else if (sub_in us s).is_sealed then s ∷ [] else []

  -- the places whose blocks an event takes: an access at most one, a fill or a spoiled page all that are sealed
  abbrev pub places_in : Event → Option ℕ → List SubPart → List ℕ
  places_in (Op (Read at n)) f us = access_places_in (sub_of k at) f us
  places_in (Op (Write at new)) f us = access_places_in (sub_of k at) f us
  places_in (Fill p g) f us = sealed_from (p * per_page k) us
  places_in (Spoiled wanted) f us = sealed_from (page_of k (sub_of k (address_of wanted)) * per_page k) us
  places_in _ f us = []

  -- a write is refused where the sub-page is clean and was sealed as often as it may be
  abbrev pub is_worn_in : SubPart → Bool
  is_worn_in u = not u.is_dirty && u.version == k.wear

  -- why an access of so many bytes is refused, by the block of its sub-page
  abbrev pub refusal_in : ℕ → Addr → ℕ → Option Live → Option Reply
  refusal_in who at n block = let e = enclave_of k who in if is_in_range (sub_bytes k e) e (subs k e) at n then use_refusal who block else Some BadRange

  -- why what was wanted is refused at once; a link is judged as an access of one byte
  abbrev pub wanted_refusal_in : ℕ → Wanted → Option Live → Option Reply
  wanted_refusal_in who (ALink at) block = refusal_in who at 1 block
  wanted_refusal_in who (ACall (Read at n)) block = refusal_in who at n block
  wanted_refusal_in who (ACall (Write at new)) block = refusal_in who at (length new) block
  wanted_refusal_in who (ACall op) block = None

  -- the block of the sub-page, by the part of its page
  abbrev pub block_at : Part → Addr → Option Live
  block_at q at = (sub_in (subs_in q) (sub_of k at)).block

  -- what was wanted is not refused at once, and its page is absent
  pub record IsWantedIn (who : ℕ) (wanted : Wanted) (q : Part) : Type 0 where
    pub not_refused : wanted_refusal_in who wanted (block_at q (address_of wanted)) ≡ None
    pub absent : is_some (frame_in q) ≡ false

  -- the block that starts at the address has this many sub-pages
  abbrev pub len_at : ℕ → Addr → List Live → ℕ
  len_at e at blocks = unwrap_or (option_map (λ (block : Live). block.len) (find (starts_at (sub_bytes k e) e at) blocks)) 0

module _ (k : Plan) (x : Seals) where
  -- what the entry finds in an absent sub-page, where blocks came for these places
  abbrev pub opened_in : Entry → List ℕ → ℕ → SubPart → List ℕ
  opened_in e ps s u = if u.is_sealed then x.unseal s u.version (block_for ps e.blocks s) else blank_bytes k

  -- and wherever it lies
  abbrev pub found_in : Entry → List ℕ → Bool → ℕ → SubPart → List ℕ
  found_in e ps present s u = if present then u.bytes else opened_in e ps s u

  -- the entry seals the sub-page
  abbrev pub seals_in : Entry → Bool → ℕ → SubPart → Bool
  seals_in e present s u = (evicts k e.event s && u.is_dirty) || (writes k e.who e.event e.reply s && not present)

  -- the text that it seals
  abbrev pub sealing_in : Entry → List ℕ → ℕ → SubPart → List ℕ
  sealing_in e ps s u = if evicts k e.event s then u.bytes else rewritten k e.who e.event (opened_in e ps s u)

  -- the bytes of a sub-page whose page is in a frame after the entry
  abbrev pub bytes_after : Stamp → List ℕ → Bool → ℕ → SubPart → List ℕ
  bytes_after d ps present s u = let e = d.entry in
      if is_zeroed k e.who e.event e.reply d.len s then blank_bytes k
      else if fills k e.event e.reply s then opened_in e ps s u
      else if writes k e.who e.event e.reply s && present then rewritten k e.who e.event u.bytes
      else u.bytes

  -- the sub-page's part after the entry: f is its page's frame before, ps are the places whose blocks came
  abbrev pub sub_after : Stamp → List ℕ → Option ℕ → ℕ → SubPart → SubPart
  sub_after d ps f s u = let e = d.entry in let zeroed = is_zeroed k e.who e.event e.reply d.len s in let sealing = seals_in e (is_some f) s u in record {
    block = if is_in_block k e.who e.event e.reply d.len s then block_by k e.who e.event e.reply u.block else u.block;
    version = if sealing then u.version + 1 else u.version;
    is_sealed = if zeroed then false else if sealing then true else u.is_sealed;
    tag = if zeroed then [] else if sealing then x.tag s (u.version + 1) (x.seal s (u.version + 1) (sealing_in e ps s u)) else u.tag;
    is_dirty = if zeroed || evicts k e.event s then false else if writes k e.who e.event e.reply s then is_some f else u.is_dirty;
    bytes = if is_some (frame_by e.event e.reply (page_of k s) f) then bytes_after d ps (is_some f) s u else [];
  }

  -- a page's part after the entry
  abbrev pub page_after : Stamp → ℕ → Option ℕ → List SubPart → Part
  page_after d p f us = page_part (frame_by d.entry.event d.entry.reply p f) (map_from (sub_after d (places_in k d.entry.event f us) f) (p * per_page k) us)

  -- the part of a cell after the entry
  abbrev pub part_after : Stamp → Cell → Part → Part
  part_after d no_cell q = no_part
  part_after d (the_alloc e) q = alloc_part (live_by k e d.entry.who d.entry.event d.entry.reply (live_in q))
  part_after d (the_clock owner) q = clock_part (frames_by owner d.entry.event (list_in q))
  part_after d (the_page p) q = page_after d p (frame_in q) (subs_in q)
  part_after d (the_frame f) q = frame_part (owner_by d.entry.event f (owner_in q)) (holder_by d.entry.event d.entry.reply f (holder_in q))

  -- what becomes of the cell with a number
  abbrev pub after_at : Stamp → (ℕ → Part) → ℕ → Part
  after_at d before c = part_after d (cell_of k c) (before c)

  -- the block has the tag of the last sealing
  abbrev pub passes_in : List SubPart → ℕ → List ℕ → Bool
  passes_in us s block = pointwise nat_eq (x.tag s (sub_in k us s).version block) (sub_in k us s).tag

  -- the blocks that came for the event, by the part of the page
  abbrev pub verdict_in : Event → List (List ℕ) → Part → Judged
  verdict_in event blocks q = judged (passes_in (subs_in q)) (places_in k event (frame_in q) (subs_in q)) blocks

  -- the call is legal on the parts of its cells
  abbrev pub CallOn : Stamp → (ℕ → Part) → Calls → Type 0
  CallOn d b (Alloc n) = let e = enclave_of k d.entry.who in IsPlainly d.entry (plain.alloc_reply (sub_bytes k e) e (live_in (b (alloc_cell k e))) (subs k e) n)
  CallOn d b (Free at) = let e = enclave_of k d.entry.who in let blocks = live_in (b (alloc_cell k e)) in
      IsPlainly d.entry (plain.block_reply (sub_bytes k e) e blocks d.entry.who at) × (d.len ≡ len_at k e at blocks)
  CallOn d b (Share at) = let e = enclave_of k d.entry.who in let blocks = live_in (b (alloc_cell k e)) in
      IsPlainly d.entry (plain.block_reply (sub_bytes k e) e blocks d.entry.who at) × (d.len ≡ len_at k e at blocks)
  CallOn d b (Read at n) = let q = b (page_cell k (page_of k (sub_of k at))) in let s = sub_of k at in MatchOption (refusal_in k d.entry.who at n (block_at k q at))
      (ByBlocks (verdict_in d.entry.event d.entry.blocks q)
      (Text (plain.bytes_of (sub_bytes k at.enclave) at.enclave at.at n (found_in d.entry (places_in k d.entry.event (frame_in q) (subs_in q)) (is_some (frame_in q)) s (sub_in k (subs_in q) s)))) d.entry.reply)
      (IsPlainly d.entry)
  CallOn d b (Write at new) = let q = b (page_cell k (page_of k (sub_of k at))) in MatchOption (refusal_in k d.entry.who at (length new) (block_at k q at))
      (MatchBool (is_worn_in k (sub_in k (subs_in q) (sub_of k at))) (IsPlainly d.entry (Worn (sub_of k at))) (ByBlocks (verdict_in d.entry.event d.entry.blocks q) Done d.entry.reply))
      (IsPlainly d.entry)

  -- the event is legal on the parts of its cells
  abbrev pub EventOn : Stamp → (ℕ → Part) → Event → Type 0
  EventOn d b (Op op) = CallOn d b op
  EventOn d b (Link at) = let q = b (page_cell k (page_of k (sub_of k at))) in MatchOption (refusal_in k d.entry.who at 1 (block_at k q at))
      ((is_some (frame_in q) ≡ true) × IsPlainly d.entry Done)
      (IsPlainly d.entry)
  EventOn d b (Unlink p) = IsPlainly d.entry Done
  EventOn d b (Fill p f) = let q = b (page_cell k p) in let g = b (frame_cell k f) in (frame_in q ≡ None) × (holder_in g ≡ None) × (owner_in g ≡ home_of k p)
      × ByBlocks (verdict_in d.entry.event d.entry.blocks q) Done d.entry.reply
  EventOn d b (Evict p f) = (frame_in (b (page_cell k p)) ≡ Some f) × IsPlainly d.entry Done
  EventOn d b (Move f from to) = let g = b (frame_cell k f) in (owner_in g ≡ from) × (holder_in g ≡ None) × IsPlainly d.entry Done
  EventOn d b (Starved wanted sweep) = let p = page_of k (sub_of k (address_of wanted)) in
      IsWantedIn k d.entry.who wanted (b (page_cell k p)) × IsTaken sweep (list_in (b (clock_cell k (home_of k p)))) × IsPlainly d.entry (NoFrame sweep)
  EventOn d b (Spoiled wanted) = let q = b (page_cell k (page_of k (sub_of k (address_of wanted)))) in
      IsWantedIn k d.entry.who wanted q × (s : ℕ) × (verdict_in d.entry.event d.entry.blocks q ≡ failed s) × (d.entry.reply ≡ Tampered s)
  EventOn d b (Survey e goal sweep) = SurveyReply (list_in (b (clock_cell k (Some e)))) (list_in (b (clock_cell k None))) goal sweep d.entry.reply × (d.entry.blocks ≡ [])

  -- the entry may be made on these parts. That an evicted page has no link, and that the caller of an unlink has one, is not said here.
  pub record MayStep (d : Stamp) (b : ℕ → Part) : Type 0 where
    pub within : IsWithin k d.entry.who d.entry.event
    pub on_parts : EventOn d b d.entry.event
