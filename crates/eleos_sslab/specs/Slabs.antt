-- A slab: which objects it has, and where they lie.
use Rattle.std.specs.Prelude.{◌≡◌, ◌≢◌, ℕ, ◌+◌, ◌%◌, ◌^◌, ◌<◌, ◌≤◌, List, length, slice_index_or, slice_set, Option, Some, None}
use Rattle.eleos_base.specs.declared.memory.Addr.{Addr}
use Rattle.eleos_base.specs.Own.{IsAmong, Private, block_of, text_at}
use Rattle.eleos_sslab.specs.declared.block.SlabBlock.{SlabBlock}
use Rattle.eleos_sslab.specs.declared.slab.ObjId.{ObjId}
use Rattle.eleos_sslab.specs.declared.size.SlotSize.{SlotSize}
use Rattle.eleos_sslab.specs.Sizes.{slot_bytes, slot_count}
use Rattle.eleos_sslab.specs.Blocks.{HasObject, IsOffer, empty_block, len_at, slot_address, with_len}

-- a block by its place, without an object past the last one
abbrev pub block_at : List SlabBlock → ℕ → SlabBlock
block_at blocks i = slice_index_or blocks i empty_block

-- the length of an object, 0 where the id has none
abbrev pub len_of : List SlabBlock → ObjId → ℕ
len_of blocks id = len_at (block_at blocks id.block) id.slot

-- the id has an object
abbrev pub IsHeld : List SlabBlock → ObjId → Type 0
IsHeld blocks id = 1 ≤ len_of blocks id

-- where an object lies: the address of the write that stored it last
abbrev pub address_of : List SlabBlock → ObjId → Addr
address_of blocks id = slot_address (block_at blocks id.block) id.slot

-- the bytes of an object, none where the id has none
abbrev pub object : Private → List SlabBlock → ObjId → List ℕ
object p blocks id = text_at p (address_of blocks id).at (len_of blocks id)

-- with an object of n bytes there, none where n is 0
abbrev pub with_object : List SlabBlock → ObjId → ℕ → List SlabBlock
with_object blocks id n = slice_set blocks id.block (with_len (block_at blocks id.block) id.slot n)

-- a block of whole sub-pages that is private
pub record IsHome (p : Private) (at : Addr) : Type 0 where
  pub among : IsAmong (block_of 1024 at 1024) p.blocks
  pub whole : at.at % 1024 ≡ 0
  pub fits : at.at + 1024 ≤ 2 ^ 32

-- an object lies within its slot, and the slot within its block
pub record IsInSlot (size : SlotSize) (slot len : ℕ) : Type 0 where
  pub in_block : slot < slot_count size
  pub in_slot : len ≤ slot_bytes size

-- each block with an object is a private block of its own, each object lies within its slot, and
-- each block has 32 lengths
pub record IsSlab (p : Private) (blocks : List SlabBlock) : Type 0 where
  pub homes : (i : ℕ) → HasObject (block_at blocks i) → IsHome p (block_at blocks i).at
  pub apart : (i j : ℕ) → HasObject (block_at blocks i) → HasObject (block_at blocks j) → i ≢ j → (block_at blocks i).at.at ≢ (block_at blocks j).at.at
  pub wide : (i : ℕ) → length (block_at blocks i).lens ≡ 32
  pub slots : (id : ObjId) → IsHeld blocks id → IsInSlot (block_at blocks id.block).size id.slot (len_of blocks id)

-- the lowest free slot of the first block with a free slot of this size
pub record IsFirstFree (blocks : List SlabBlock) (size : SlotSize) (id : ObjId) : Type 0 where
  pub within : id.block < length blocks
  pub offer : IsOffer (block_at blocks id.block) size id.slot
  pub before : (i : ℕ) → i < id.block → (slot : ℕ) → IsOffer (block_at blocks i) size slot → ⊥

-- no block has a free slot of this size
abbrev pub HasNoFree : List SlabBlock → SlotSize → Type 0
HasNoFree blocks size = (i : ℕ) → i < length blocks → (slot : ℕ) → IsOffer (block_at blocks i) size slot → ⊥

-- no slot of this size is free, and each block has an object
pub record IsFull (blocks : List SlabBlock) (size : SlotSize) : Type 0 where
  pub none_free : HasNoFree blocks size
  pub all_used : (i : ℕ) → i < length blocks → HasObject (block_at blocks i)

-- so it is for objects of the size that is looked for
abbrev pub IsFullFor : List SlabBlock → Option SlotSize → Type 0
IsFullFor blocks None = ⊥
IsFullFor blocks (Some size) = IsFull blocks size

-- an object needs a slot of the size that is looked for, other than its own, and none is free
abbrev pub NeedsSlot : List SlabBlock → ObjId → Option SlotSize → Type 0
NeedsSlot blocks id None = ⊥
NeedsSlot blocks id (Some size) = (size ≢ (block_at blocks id.block).size) × IsFull blocks size

-- every other object stays where it is and keeps its bytes, and no other one is there
pub record KeepsOthers (p : Private) (blocks : List SlabBlock) (id : ObjId) (p' : Private) (blocks' : List SlabBlock) : Type 0 where
  pub many : length blocks' ≡ length blocks
  pub lens : (other : ObjId) → other ≢ id → len_of blocks' other ≡ len_of blocks other
  pub places : (other : ObjId) → other ≢ id → IsHeld blocks other → address_of blocks' other ≡ address_of blocks other
  pub objects : (other : ObjId) → other ≢ id → object p' blocks' other ≡ object p blocks other
