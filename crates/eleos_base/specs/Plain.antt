-- Plain memory: for each enclave its live blocks, and the bytes of each of its sub-pages.
-- Places and lengths of blocks are in sub-pages, counted from the enclave's first; `size` is the bytes of a sub-page.
use Rattle.std.specs.Prelude.{◌≡◌, ℕ, ◌+◌, ◌*◌, ◌/◌, ◌%◌, ◌⊎◌, List, [], ◌∷◌, length, take, drop, replicate, filter, map, fold, Bool, true, false, not, ◌==◌, ◌&&◌, ◌||◌, nat_lt, nat_le, Option, Some, None, unwrap_or, slice_index_or, slice_set, if◌then◌else◌}
use Rattle.std.specs.List.{find, list_all, splice}
use Rattle.std.specs.Int.{div_ceil}
use Rattle.eleos_base.specs.declared.memory.Addr.{Addr}
use Rattle.eleos_base.specs.declared.memory.Live.{Live}
use Rattle.eleos_base.specs.declared.memory.Op.{Op}
use Rattle.eleos_base.specs.declared.memory.Op.TheVariants.{Alloc, Free, Share, Read, Write}
use Rattle.eleos_base.specs.declared.memory.Reply.{Reply}
use Rattle.eleos_base.specs.declared.memory.Reply.TheVariants.{Got, Done, Text, BadSize, NoSpace, NotABlock, BadRange, Unallocated, NotYours, Worn, NoFrame, Tampered}
use Rattle.eleos_base.specs.declared.plan.Plan.{Plan}
use Rattle.eleos_base.specs.declared.plan.BlockPlan.{BlockPlan}
use Rattle.eleos_base.specs.declared.plan.EnclavePlan.{EnclavePlan}
use Rattle.eleos_base.specs.Lists.{map_from, first_from}
use Rattle.eleos_base.specs.Plans.{sub_bytes, subs_in, enclave_of}

-- an enclave's live blocks in rising order of start, and the bytes of each of its sub-pages, zeros where it is in no block
pub record EnclaveMemory : Type 0 where
  pub blocks : List Live
  pub texts : List (List ℕ)

-- the memory of a machine, enclave by enclave
abbrev pub Plain : Type 0
Plain = List EnclaveMemory

-- the bytes of a sub-page in no block
unfoldable pub zeros : ℕ → List ℕ
zeros size = replicate size 0

-- the sub-pages that so many bytes take
abbrev pub subs_for : ℕ → ℕ → ℕ
subs_for size bytes = div_ceil bytes size

-- the sub-page is one of the run
abbrev pub is_in_run : ℕ → ℕ → ℕ → Bool
is_in_run start len s = nat_le start s && nat_lt s (start + len)

-- the block has the sub-page
abbrev pub has_sub : ℕ → Live → Bool
has_sub s block = is_in_run block.start block.len s

-- the block found has the sub-page
abbrev pub is_in : ℕ → Option Live → Bool
is_in s None = false
is_in s (Some block) = has_sub s block

-- the block starts at the address
abbrev pub starts_at : ℕ → ℕ → Addr → Live → Bool
starts_at size enclave at block = at.enclave == enclave && at.at == size * block.start

-- the block, shared where it starts at the address
abbrev pub shared_at : ℕ → ℕ → Addr → Live → Live
shared_at size enclave at block = record block { is_shared = block.is_shared || starts_at size enclave at block }

-- the block has no sub-page of the run
abbrev pub is_apart : ℕ → ℕ → Live → Bool
is_apart start len block = nat_le (block.start + block.len) start || nat_le (start + len) block.start

-- so many sub-pages from start on lie among all sub-pages and in no live block
abbrev pub is_free_run : List Live → ℕ → ℕ → ℕ → Bool
is_free_run blocks subs len start = nat_le (start + len) subs && list_all (is_apart start len) blocks

-- the lowest free run
unfoldable pub lowest_run : List Live → ℕ → ℕ → Option ℕ
lowest_run blocks subs len = first_from (is_free_run blocks subs len) subs 0

-- with one more block, at its place in the order of starts
abbrev pub with_block : Live → List Live → List Live
with_block block [] = block ∷ []
with_block block (other ∷ others) = if nat_lt block.start other.start then block ∷ other ∷ others else other ∷ with_block block others

-- the sizes that a block may have: 1 to 65536 bytes
abbrev pub is_good_size : ℕ → Bool
is_good_size bytes = nat_le 1 bytes && nat_le bytes 65536

-- why the caller may not free or share the block found at the address
abbrev pub block_refusal : ℕ → Option Live → Option Reply
block_refusal who None = Some NotABlock
block_refusal who (Some block) = if block.owner == who then None else Some (NotYours block.owner)

-- why the caller may not use a sub-page that lies in this block
abbrev pub use_refusal : ℕ → Option Live → Option Reply
use_refusal who None = Some Unallocated
use_refusal who (Some block) = if block.is_shared || block.owner == who then None else Some (NotYours block.owner)

-- the call was accepted
abbrev pub is_accepted : Reply → Bool
is_accepted (Got at) = true
is_accepted Done = true
is_accepted (Text bytes) = true
is_accepted _ = false

-- the offset that an alloc answered
abbrev pub got : Reply → ℕ
got (Got at) = at.at
got _ = 0

-- a machine's own refusals of a read, which plain memory leaves open
abbrev pub is_read_failure : Reply → Bool
is_read_failure (Tampered sub) = true
is_read_failure (NoFrame sweep) = true
is_read_failure _ = false

-- and of a write
abbrev pub is_write_failure : Reply → Bool
is_write_failure (Worn sub) = true
is_write_failure (Tampered sub) = true
is_write_failure (NoFrame sweep) = true
is_write_failure _ = false

-- one enclave, by the bytes of its sub-pages and its number
module _ (size enclave : ℕ) where
  -- an access of so many bytes lies in one sub-page of the enclave, which has so many sub-pages
  abbrev pub is_in_range : ℕ → Addr → ℕ → Bool
  is_in_range subs at n = at.enclave == enclave && nat_le 1 n && nat_le (at.at % size + n) size && nat_le (at.at + n) (size * subs)

  -- why the caller may not access so many bytes at the address
  abbrev pub access_refusal : List Live → ℕ → ℕ → Addr → ℕ → Option Reply
  access_refusal blocks subs who at n = if is_in_range subs at n then use_refusal who (find (has_sub (at.at / size)) blocks) else Some BadRange

  -- so many bytes of a sub-page's text, from the address on
  abbrev pub bytes_of : ℕ → ℕ → List ℕ → List ℕ
  bytes_of at n text = take n (drop (at % size) text)

  -- the answer to an alloc that may start there
  abbrev pub alloc_answer : Option ℕ → Reply
  alloc_answer None = NoSpace
  alloc_answer (Some start) = Got (record { enclave = enclave; at = size * start })

  -- the answer to an alloc of so many bytes among these live blocks
  abbrev pub alloc_reply : List Live → ℕ → ℕ → Reply
  alloc_reply blocks subs n = if is_good_size n then alloc_answer (lowest_run blocks subs (subs_for size n)) else BadSize

  -- the answer to the caller's free or share
  abbrev pub block_reply : List Live → ℕ → Addr → Reply
  block_reply blocks who at = unwrap_or (block_refusal who (find (starts_at size enclave at) blocks)) Done

  -- the answer to the caller's call
  abbrev pub answer : EnclaveMemory → ℕ → Op → Reply
  answer m who (Alloc n) = alloc_reply m.blocks (length m.texts) n
  answer m who (Free at) = block_reply m.blocks who at
  answer m who (Share at) = block_reply m.blocks who at
  answer m who (Read at n) = unwrap_or (access_refusal m.blocks (length m.texts) who at n) (Text (bytes_of at.at n (slice_index_or m.texts (at.at / size) [])))
  answer m who (Write at bytes) = unwrap_or (access_refusal m.blocks (length m.texts) who at (length bytes)) Done

  -- a call that plain memory accepts may still be refused by the machine
  abbrev pub may_fail : EnclaveMemory → ℕ → Op → Reply → Bool
  may_fail m who (Read at n) reply = is_accepted (answer m who (Read at n)) && is_read_failure reply
  may_fail m who (Write at bytes) reply = is_accepted (answer m who (Write at bytes)) && is_write_failure reply
  may_fail m who _ reply = false

  -- the live blocks after the call with this reply
  abbrev pub blocks_after : ℕ → Op → Reply → List Live → List Live
  blocks_after who (Alloc n) reply blocks = if is_accepted reply then with_block (record { start = got reply / size; len = subs_for size n; owner = who; is_shared = false }) blocks else blocks
  blocks_after who (Free at) reply blocks = if is_accepted reply then filter (λ block. not (starts_at size enclave at block)) blocks else blocks
  blocks_after who (Share at) reply blocks = if is_accepted reply then map (shared_at size enclave at) blocks else blocks
  blocks_after who (Read at n) reply blocks = blocks
  blocks_after who (Write at bytes) reply blocks = blocks

  -- an accepted alloc or free of a block that has the sub-page
  abbrev pub covers : List Live → Op → Reply → ℕ → Bool
  covers blocks (Alloc n) reply s = is_accepted reply && is_in_run (got reply / size) (subs_for size n) s
  covers blocks (Free at) reply s = is_accepted reply && is_in s (find (starts_at size enclave at) blocks)
  covers blocks _ reply s = false

  -- an accepted write to the sub-page
  abbrev pub writes : Op → Reply → ℕ → Bool
  writes (Write at bytes) reply s = is_accepted reply && at.at / size == s
  writes _ reply s = false

  -- a sub-page's bytes with those that a write to it changes
  abbrev pub rewritten : Op → List ℕ → List ℕ
  rewritten (Write at bytes) text = splice text (at.at % size) (at.at % size + length bytes) bytes
  rewritten _ text = text

  -- a sub-page's bytes after the call
  abbrev pub text_after : List Live → Op → Reply → ℕ → List ℕ → List ℕ
  text_after blocks op reply s text = if covers blocks op reply s then zeros size else if writes op reply s then rewritten op text else text

  -- the enclave's memory after the call with this reply
  abbrev pub memory_after : ℕ → Op → Reply → EnclaveMemory → EnclaveMemory
  memory_after who op reply m = record {
    blocks = blocks_after who op reply m.blocks;
    texts = map_from (text_after m.blocks op reply) 0 m.texts;
  }

-- an enclave of so many sub-pages with nothing in it
abbrev pub blank : ℕ → ℕ → EnclaveMemory
blank size subs = record { blocks = []; texts = replicate subs (zeros size) }

-- with a header block at that place, where there is one; a block of nobody is shared
abbrev pub opened_at : ℕ → BlockPlan → EnclaveMemory → Option ℕ → EnclaveMemory
opened_at size block m None = m
opened_at size block m (Some start) = record m { blocks = with_block (record { start = start; len = subs_for size block.bytes; owner = block.owner; is_shared = block.owner == 0 }) m.blocks }

-- with a header block in the lowest free run
abbrev pub with_header_block : ℕ → EnclaveMemory → BlockPlan → EnclaveMemory
with_header_block size m block = opened_at size block m (lowest_run m.blocks (length m.texts) (subs_for size block.bytes))

-- an enclave with its header blocks, which are taken in their order
abbrev pub opening_of : Plan → ℕ → EnclavePlan → EnclaveMemory
opening_of plan enclave made = fold (with_header_block (sub_bytes plan enclave)) (blank (sub_bytes plan enclave) (subs_in plan enclave made.pages)) (filter (λ block. block.enclave == enclave) plan.blocks)

-- plain memory before the first call
abbrev pub opening : Plan → Plain
opening plan = map_from (opening_of plan) 0 plan.enclaves

-- the memory of an enclave
abbrev pub memory_of : Plain → ℕ → EnclaveMemory
memory_of m enclave = slice_index_or m enclave (record { blocks = []; texts = [] })

-- a machine, by its plan
module _ (plan : Plan) where
  -- what the memory answers to the caller's call
  abbrev pub plain_reply : Plain → ℕ → Op → Reply
  plain_reply m who op = let enclave : ℕ = enclave_of plan who in answer (sub_bytes plan enclave) enclave (memory_of m enclave) who op

  -- the memory after the caller's call with this reply
  abbrev pub plain_after : ℕ → Op → Reply → Plain → Plain
  plain_after who op reply m = let enclave : ℕ = enclave_of plan who in slice_set m enclave (memory_after (sub_bytes plan enclave) enclave who op reply (memory_of m enclave))

  -- a reply that the caller's call may get: the memory's, or a refusal of the machine's
  abbrev pub MayReply : Plain → ℕ → Op → Reply → Type 0
  MayReply m who op reply = (reply ≡ plain_reply m who op) ⊎ (let enclave : ℕ = enclave_of plan who in may_fail (sub_bytes plan enclave) enclave (memory_of m enclave) who op reply ≡ true)

  -- from m, the caller's call may get this reply and leave m'
  pub record PlainStep (m : Plain) (who : ℕ) (op : Op) (reply : Reply) (m' : Plain) : Type 0 where
    pub allowed : MayReply m who op reply
    pub after : m' ≡ plain_after who op reply m

-- a call with its caller and its reply
pub record Call : Type 0 where
  pub who : ℕ
  pub op : Op
  pub reply : Reply

-- the memory after these calls
abbrev pub after_calls : Plan → Plain → List Call → Plain
after_calls plan first calls = fold (λ m call. plain_after plan call.who call.op call.reply m) first calls

-- these calls in their order are a run of plain memory from m on
abbrev pub PlainRun : Plan → Plain → List Call → Type 0
PlainRun plan m [] = Unit {0}
PlainRun plan m (call ∷ calls) = PlainStep plan m call.who call.op call.reply (plain_after plan call.who call.op call.reply m) × PlainRun plan (plain_after plan call.who call.op call.reply m) calls
