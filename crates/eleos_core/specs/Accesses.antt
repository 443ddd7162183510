-- Accesses by the parts of the machine's cells: which are refused, which block each takes from the host, and what is made of it.
use Rattle.std.specs.Prelude.{◌≡◌, ℕ, true, false, ◌+◌, ◌*◌, ◌%◌, ◌<◌, ◌==◌, ◌&&◌, not, List, [], ◌∷◌, length, map, Bool, ◌||◌, nat_eq, Option, Some, None, is_some, if◌then◌else◌}
use Rattle.std.specs.List.{AllByRecursion, splice}
use Rattle.std.specs.Cmp.Lexicographic.{pointwise}
use Rattle.eleos_base.specs.declared.memory.Addr.{Addr}
use Rattle.eleos_base.specs.declared.memory.Op.{Op as Calls}
use Rattle.eleos_base.specs.declared.memory.Op.TheVariants.{Read, Write}
use Rattle.eleos_base.specs.declared.memory.Reply.{Reply}
use Rattle.eleos_base.specs.declared.memory.Reply.TheVariants.{Worn}
use Rattle.eleos_base.specs.declared.plan.Plan.{Plan}
use Rattle.eleos_base.specs.Plain.{is_in_range, use_refusal, zeros}
use Rattle.eleos_base.specs.Plans.{enclave_of, sub_bytes}
use Rattle.eleos_core.specs.declared.accesses.spots.Spot.{Spot}
use Rattle.eleos_core.specs.declared.cells.sub_page.SubPage.{SubPage}
use Rattle.eleos_core.specs.declared.event.Event.{Event}
use Rattle.eleos_core.specs.declared.event.Event.TheVariants.{Op, Link, Unlink}
use Rattle.eleos_core.specs.declared.machine.Put.{Put}
use Rattle.eleos_core.specs.Applying.{page_puts, parts_in, put_of, stamp_of}
use Rattle.eleos_core.specs.Cells.{Cells, sub_size, subs_per_page}
use Rattle.eleos_core.specs.Legal.{Judged, failed, judged, passed}
use Rattle.eleos_core.specs.Parts.{CallOn, Part, Stamp, SubPart, access_places_in, frame_in, is_worn_in, page_after, page_cell, part_after, refusal_in, sub_in, subs_in, the_page}
use Rattle.eleos_base.specs.Places.{page_of, per_page, sub_of, subs}
use Rattle.eleos_core.specs.Seals.{Seals}
use Rattle.eleos_core.specs.State.{block_for}

-- where the address lies: its page, its sub-page's place with the host, which of the page's sub-pages that is, and the byte in it
pub record IsSpot (k : Plan) (at : Addr) (spot : Spot) : Type 0 where
  pub page : spot.page ≡ page_of k (sub_of k at)
  pub place : spot.place ≡ sub_of k at
  pub index : spot.page * per_page k + spot.index ≡ spot.place
  pub in_page : spot.index < subs_per_page
  pub from : spot.from ≡ at.at % sub_bytes k at.enclave

-- the part of the page that has the address
abbrev pub page_for : Cells → Addr → Part
page_for m at = parts_in m (page_cell m.plan (page_of m.plan (sub_of m.plan at)))

-- the part of the sub-page that has it, in its page
abbrev pub sub_for : Plan → Addr → Part → SubPart
sub_for k at q = sub_in k (subs_in q) (sub_of k at)

-- why an access of so many bytes is refused
abbrev pub refusal_for : Plan → ℕ → Addr → ℕ → Part → Option Reply
refusal_for k who at n q = refusal_in k who at n (sub_for k at q).block

-- why the machine's cells refuse an access of so many bytes at the address
abbrev pub refusal_on : Cells → ℕ → Addr → ℕ → Option Reply
refusal_on m who at n = refusal_for m.plan who at n (page_for m at)

-- the place whose block is opened for an access: that of a sealed sub-page of an absent page
abbrev pub opened_places : Plan → Addr → Part → List ℕ
opened_places k at q = access_places_in k (sub_of k at) (frame_in q) (subs_in q)

-- none for a write to a sub-page that was sealed as often as it may be
abbrev pub rewritten_places : Plan → Addr → Part → List ℕ
rewritten_places k at q = if is_worn_in k (sub_for k at q) then [] else opened_places k at q

-- the place whose block a call takes: none where it is refused
abbrev pub call_places : Cells → ℕ → Calls → List ℕ
call_places m who (Read at n) = if is_some (refusal_on m who at n) then [] else opened_places m.plan at (page_for m at)
call_places m who (Write at new) = if is_some (refusal_on m who at (length new)) then [] else rewritten_places m.plan at (page_for m at)
call_places m who op = []

-- the place whose block an event takes as an access
abbrev pub taken_places : Cells → ℕ → Event → List ℕ
taken_places m who (Op op) = call_places m who op
taken_places m who event = []

-- a block for each place, as long as a sub-page
pub record AreBlocks (places : List ℕ) (blocks : List (List ℕ)) : Type 0 where
  pub count : length blocks ≡ length places
  pub each : AllByRecursion (λ (block : List ℕ). length block ≡ sub_size) blocks

-- the place whose block an absent sub-page takes
abbrev pub block_places : ℕ → SubPart → List ℕ
block_places s u = if u.is_sealed then s ∷ [] else []

-- what became of the block that came for it
abbrev pub judged_sub : Seals → ℕ → SubPart → List (List ℕ) → Judged
judged_sub x s u blocks = judged (λ q block. pointwise nat_eq (x.tag q u.version block) u.tag) (block_places s u) blocks

-- the text that it opens to, zeros where the sub-page is blank
abbrev pub opened_sub : Seals → ℕ → SubPart → List (List ℕ) → List ℕ
opened_sub x s u blocks = if u.is_sealed then x.unseal s u.version (block_for (s ∷ []) blocks s) else zeros sub_size

-- its block passed, and this is its text
pub record IsOpened (x : Seals) (s : ℕ) (u : SubPart) (blocks : List (List ℕ)) (text : List ℕ) : Type 0 where
  pub judged_is : judged_sub x s u blocks ≡ passed
  pub text_is : text ≡ opened_sub x s u blocks
  pub size : length text ≡ sub_size

-- its text, or none where its block did not pass
abbrev pub Opens : Seals → ℕ → SubPart → List (List ℕ) → Option (List ℕ) → Type 0
Opens x s u blocks None = judged_sub x s u blocks ≡ failed s
Opens x s u blocks (Some text) = IsOpened x s u blocks text

-- a text with other bytes from a place on
abbrev pub with_bytes : List ℕ → ℕ → List ℕ → List ℕ
with_bytes text from new = splice text from (from + length new) new

-- a sub-page's part after it was sealed with the text once more
abbrev pub resealed : Seals → ℕ → SubPart → List ℕ → SubPart
resealed x s u text = record u { version = u.version + 1; is_sealed = true; tag = x.tag s (u.version + 1) (x.seal s (u.version + 1) text); is_dirty = false }

-- its block passed, and its text was sealed with these bytes in it
pub record IsResealed (x : Seals) (s from : ℕ) (new : List ℕ) (blocks : List (List ℕ)) (u : SubPart) (block : List ℕ) (after : SubPart) : Type 0 where
  pub judged_is : judged_sub x s u blocks ≡ passed
  pub part_is : after ≡ resealed x s u (with_bytes (opened_sub x s u blocks) from new)
  pub block_is : block ≡ x.seal s (u.version + 1) (with_bytes (opened_sub x s u blocks) from new)

-- the block that it was sealed to, or none where its block did not pass
abbrev pub Reseals : Seals → ℕ → ℕ → List ℕ → List (List ℕ) → SubPart → Option (List ℕ) → SubPart → Type 0
Reseals x s from new blocks u None after = judged_sub x s u blocks ≡ failed s
Reseals x s from new blocks u (Some block) after = IsResealed x s from new blocks u block after

-- the stamps of accesses
abbrev pub read_stamp : ℕ → Addr → ℕ → List (List ℕ) → Reply → Stamp
read_stamp who at n blocks reply = stamp_of who (Op (Read at n)) blocks reply 0

-- of a write, for which these blocks came
abbrev pub write_stamp : ℕ → Addr → List ℕ → List (List ℕ) → Reply → Stamp
write_stamp who at new blocks reply = stamp_of who (Op (Write at new)) blocks reply 0

-- of a link, which takes no block
abbrev pub link_stamp : ℕ → Addr → Reply → Stamp
link_stamp who at reply = stamp_of who (Link at) [] reply 0

-- of an unlink of a page, which takes no block
abbrev pub unlink_stamp : ℕ → ℕ → Reply → Stamp
unlink_stamp who page reply = stamp_of who (Unlink page) [] reply 0

-- so many bytes from the address on lie in one sub-page of the caller's enclave
abbrev pub IsAccess : Plan → ℕ → Addr → ℕ → Type 0
IsAccess k who at n = let e = enclave_of k who in is_in_range (sub_bytes k e) e (subs k e) at n ≡ true

-- the page of the address
abbrev pub page_at : Plan → Addr → ℕ
page_at k at = page_of k (sub_of k at)

-- the first of two, if there is one
abbrev pub first_of : Option Reply → Option Reply → Option Reply
first_of (Some reply) other = Some reply
first_of None other = other

-- why a write in range to the sub-page is refused
abbrev pub write_refusal : Plan → ℕ → SubPage → ℕ → Option Reply
write_refusal k who u place = first_of (use_refusal who u.block) (if not u.is_dirty && u.version == k.wear then Some (Worn place) else None)

-- a read with this reply is legal by the part of its page, which it leaves as it is
pub record ReadsOn (k : Plan) (x : Seals) (who : ℕ) (at : Addr) (n : ℕ) (blocks : List (List ℕ)) (part : Part) (reply : Reply) : Type 0 where
  pub legal : CallOn k x (read_stamp who at n blocks reply) (λ _. part) (Read at n)
  pub same : part ≡ part_after k x (read_stamp who at n blocks reply) (the_page (page_at k at)) part

-- a write with this reply is legal by the part of its page, of which it makes this one
pub record WritesOn (k : Plan) (x : Seals) (who : ℕ) (at : Addr) (new : List ℕ) (blocks : List (List ℕ)) (before : Part) (reply : Reply) (after : Part) : Type 0 where
  pub legal : CallOn k x (write_stamp who at new blocks reply) (λ _. before) (Write at new)
  pub made : after ≡ part_after k x (write_stamp who at new blocks reply) (the_page (page_at k at)) before

-- the blocks that a write seals, each with its place
abbrev pub sealed_by : Plan → Seals → ℕ → Addr → List ℕ → List (List ℕ) → Part → Reply → List (ℕ × List ℕ)
sealed_by k x who at new blocks before reply = page_puts k x (write_stamp who at new blocks reply) (page_at k at) before

-- a read with this reply is legal by the part of its page
abbrev pub ReadsPage : Plan → Seals → ℕ → Addr → ℕ → List (List ℕ) → Part → Reply → Type 0
ReadsPage k x who at n blocks q reply = CallOn k x (read_stamp who at n blocks reply) (λ _. q) (Read at n)

-- a write with this reply is legal by the part of its page, the page has the part that it makes of it, and the blocks are those that it seals
pub record WritesPage (k : Plan) (x : Seals) (who : ℕ) (at : Addr) (new : List ℕ) (blocks : List (List ℕ)) (q : Part) (reply : Reply) (puts : List Put) (after : Part) : Type 0 where
  pub legal : CallOn k x (write_stamp who at new blocks reply) (λ _. q) (Write at new)
  pub part_is : after ≡ page_after k x (write_stamp who at new blocks reply) (page_of k (sub_of k at)) (frame_in q) (subs_in q)
  pub puts_are : map put_of puts ≡ page_puts k x (write_stamp who at new blocks reply) (page_of k (sub_of k at)) q

-- a link at the address is refused, or its page is in a frame
abbrev pub may_link : Cells → ℕ → Addr → Bool
may_link m who at = is_some (refusal_on m who at 1) || is_some (frame_in (page_for m at))
