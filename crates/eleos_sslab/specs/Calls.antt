-- What each call on a slab asks of its memory, and what it leaves.
use Rattle.std.specs.Prelude.{◌≡◌, ◌≢◌, ◌⊎◌, ℕ, ◌+◌, ◌≤◌, List, [], ◌∷◌, length, Some, Result, Ok, Err, take}
use Rattle.eleos_base.specs.declared.memory.Addr.{Addr}
use Rattle.eleos_base.specs.declared.memory.Op.TheVariants as ops
use Rattle.eleos_base.specs.declared.memory.Reply.{Reply}
use Rattle.eleos_base.specs.declared.memory.Reply.TheVariants as replies
use Rattle.eleos_base.specs.declared.refusals.AccessRefused.{AccessRefused}
use Rattle.eleos_base.specs.Answers.{access_refusal_reply}
use Rattle.eleos_base.specs.Own.{Private, Said}
use Rattle.eleos_base.specs.SubMemory.{HasMade, IsWriteFault, MemoryState, owned}
use Rattle.eleos_sslab.specs.declared.block.SlabBlock.{SlabBlock}
use Rattle.eleos_sslab.specs.declared.slab.ObjId.{ObjId}
use Rattle.eleos_sslab.specs.declared.slab.SlabRefused.{SlabRefused}
use Rattle.eleos_sslab.specs.declared.slab.SlabRefused.TheVariants.{BadSize, Full, NoSpace, Access}
use Rattle.eleos_sslab.specs.declared.size.SlotSize.{SlotSize}
use Rattle.eleos_sslab.specs.Sizes.{size_for}
use Rattle.eleos_sslab.specs.Blocks.{HasObject}
use Rattle.eleos_sslab.specs.Slabs.{HasNoFree, IsFirstFree, IsHeld, KeepsOthers, address_of, block_at, len_of, object}

-- the write of an object, with this reply
abbrev pub write_of : Addr → List ℕ → Reply → Said
write_of at bytes reply = (ops.Write at bytes, reply)

-- the alloc of a block, answered with its address
abbrev pub alloc_of : Addr → Said
alloc_of at = (ops.Alloc 1024, replies.Got at)

-- the free of a block
abbrev pub free_of : Addr → Said
free_of at = (ops.Free at, replies.Done)

-- the answer of the read of an object into a buffer, of which it is the first bytes
abbrev pub get_reply : Result ℕ AccessRefused → List ℕ → Reply
get_reply (Ok n) buf = replies.Text (take n buf)
get_reply (Err why) buf = access_refusal_reply why

-- all objects keep their bytes
abbrev pub KeepsObjects : Private → List SlabBlock → Private → Type 0
KeepsObjects p blocks p' = (id : ObjId) → object p' blocks id ≡ object p blocks id

module _ {O : Type 0} where
  -- the memory has the owner that it had, and at most so many of its calls left were spent
  pub record Costs (m : MemoryState O) (most : ℕ) (m' : MemoryState O) : Type 0 where
    pub origin : m'.origin ≡ m.origin
    pub left : m.left ≤ m'.left + most

  -- the object is there, and no other one is changed
  pub record HasStored (m : MemoryState O) (blocks : List SlabBlock) (bytes : List ℕ) (id : ObjId) (m' : MemoryState O) (blocks' : List SlabBlock) : Type 0 where
    pub len : len_of blocks' id ≡ length bytes
    pub text : object (owned m') blocks' id ≡ bytes
    pub others : KeepsOthers (owned m) blocks id (owned m') blocks'

  -- the first free slot of a size was written to
  pub record WritesFree (m : MemoryState O) (blocks : List SlabBlock) (size : SlotSize) (bytes : List ℕ) (id : ObjId) (reply : Reply) (m' : MemoryState O) : Type 0 where
    pub free : IsFirstFree blocks size id
    pub made : HasMade m (write_of (address_of blocks id) bytes reply ∷ []) m'

  -- no slot of a size was free, and a new block was written to
  pub record WritesNew (m : MemoryState O) (blocks : List SlabBlock) (size : SlotSize) (bytes : List ℕ) (at : Addr) (reply : Reply) (after : List Said) (m' : MemoryState O) : Type 0 where
    pub none : HasNoFree blocks size
    pub made : HasMade m (alloc_of at ∷ write_of at bytes reply ∷ after) m'

  -- the calls that store a new object in a slot of this size
  abbrev pub StoreCalls : MemoryState O → List SlabBlock → SlotSize → List ℕ → ObjId → MemoryState O → List SlabBlock → Type 0
  StoreCalls m blocks size bytes id m' blocks' = (WritesFree m blocks size bytes id replies.Done m' × (address_of blocks' id ≡ address_of blocks id)) ⊎ WritesNew m blocks size bytes (address_of blocks' id) replies.Done [] m'

  -- the calls where the write of a new object is refused: a new block is freed again
  abbrev pub RefusedCalls : MemoryState O → List SlabBlock → SlotSize → List ℕ → Reply → MemoryState O → Type 0
  RefusedCalls m blocks size bytes reply m' = ((id : ObjId) × WritesFree m blocks size bytes id reply m') ⊎ ((at : Addr) × WritesNew m blocks size bytes at reply (free_of at ∷ []) m')

  -- the calls that store a new object in a new block, by the answer
  abbrev pub NewCalls : MemoryState O → List ℕ → Result ObjId SlabRefused → MemoryState O → List SlabBlock → Type 0
  NewCalls m bytes (Ok id) m' blocks' = HasMade m (alloc_of (address_of blocks' id) ∷ write_of (address_of blocks' id) bytes replies.Done ∷ []) m'
  NewCalls m bytes (Err BadSize) m' blocks' = ⊥
  NewCalls m bytes (Err Full) m' blocks' = ⊥
  NewCalls m bytes (Err NoSpace) m' blocks' = HasMade m ((ops.Alloc 1024, replies.NoSpace) ∷ []) m'
  NewCalls m bytes (Err (Access why)) m' blocks' = IsWriteFault why × ((at : Addr) × HasMade m (alloc_of at ∷ write_of at bytes (access_refusal_reply why) ∷ free_of at ∷ []) m')

  -- the calls of a put by its answer
  abbrev pub PutCalls : MemoryState O → List SlabBlock → List ℕ → Result ObjId SlabRefused → MemoryState O → List SlabBlock → Type 0
  PutCalls m blocks bytes (Ok id) m' blocks' = (size : SlotSize) × (size_for (length bytes) ≡ Some size) × StoreCalls m blocks size bytes id m' blocks'
  PutCalls m blocks bytes (Err BadSize) m' blocks' = m' ≡ m
  PutCalls m blocks bytes (Err Full) m' blocks' = m' ≡ m
  PutCalls m blocks bytes (Err NoSpace) m' blocks' = HasMade m ((ops.Alloc 1024, replies.NoSpace) ∷ []) m'
  PutCalls m blocks bytes (Err (Access why)) m' blocks' = (size : SlotSize) × (size_for (length bytes) ≡ Some size) × IsWriteFault why × RefusedCalls m blocks size bytes (access_refusal_reply why) m'

  -- a block with no object was freed, and one with an object was not
  abbrev pub FreesEmpty : MemoryState O → List SlabBlock → ℕ → MemoryState O → Type 0
  FreesEmpty m blocks place m' = (HasObject (block_at blocks place) × (m' ≡ m)) ⊎ ((HasObject (block_at blocks place) → ⊥) × HasMade m (free_of (block_at blocks place).at ∷ []) m')

  -- an object has other bytes, maybe by another id, and no other one is changed
  pub record HasReplaced (m : MemoryState O) (blocks : List SlabBlock) (bytes : List ℕ) (id new : ObjId) (m' : MemoryState O) (blocks' : List SlabBlock) : Type 0 where
    pub len : len_of blocks' new ≡ length bytes
    pub text : object (owned m') blocks' new ≡ bytes
    pub fresh : new ≢ id → len_of blocks new ≡ 0
    pub gone : new ≢ id → len_of blocks' id ≡ 0
    pub many : length blocks' ≡ length blocks
    pub lens : (other : ObjId) → other ≢ id → other ≢ new → len_of blocks' other ≡ len_of blocks other
    pub places : (other : ObjId) → other ≢ id → other ≢ new → IsHeld blocks other → address_of blocks' other ≡ address_of blocks other
    pub objects : (other : ObjId) → other ≢ id → other ≢ new → object (owned m') blocks' other ≡ object (owned m) blocks other

  -- the object was written where it lies, and lies there still
  abbrev pub WritesHere : MemoryState O → List SlabBlock → List ℕ → ObjId → Result ObjId SlabRefused → MemoryState O → List SlabBlock → Type 0
  WritesHere m blocks bytes id (Ok new) m' blocks' = (new ≡ id) × (address_of blocks' new ≡ address_of blocks id) × HasMade m (write_of (address_of blocks id) bytes replies.Done ∷ []) m'
  WritesHere m blocks bytes id (Err (Access why)) m' blocks' = IsWriteFault why × HasMade m (write_of (address_of blocks id) bytes (access_refusal_reply why) ∷ []) m'
  WritesHere m blocks bytes id (Err BadSize) m' blocks' = ⊥
  WritesHere m blocks bytes id (Err Full) m' blocks' = ⊥
  WritesHere m blocks bytes id (Err NoSpace) m' blocks' = ⊥

  -- a new object was put, and where it was stored the old one was taken
  abbrev pub Moves : MemoryState O → List SlabBlock → List ℕ → ObjId → Result ObjId SlabRefused → MemoryState O → List SlabBlock → Type 0
  Moves m blocks bytes id (Ok new) m' blocks' = (between : MemoryState O) × (stored : List SlabBlock) × PutCalls m blocks bytes (Ok new) between stored × (address_of blocks' new ≡ address_of stored new) × FreesEmpty between blocks' id.block m'
  Moves m blocks bytes id (Err why) m' blocks' = PutCalls m blocks bytes (Err why) m' blocks'
