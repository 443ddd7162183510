-- A block in slots of one size.
use Rattle.std.specs.Prelude.{◌≡◌, ℕ, ◌+◌, ◌*◌, ◌<◌, ◌≤◌, replicate, slice_index, slice_set}
use Rattle.eleos_base.specs.declared.memory.Addr.{Addr}
use Rattle.eleos_sslab.specs.declared.block.SlabBlock.{SlabBlock}
use Rattle.eleos_sslab.specs.declared.size.SlotSize.{SlotSize}
use Rattle.eleos_sslab.specs.declared.size.SlotSize.TheVariants.{Bytes32}
use Rattle.eleos_sslab.specs.Sizes.{slot_bytes, slot_count}

-- no object
abbrev pub empty_block : SlabBlock
empty_block = record { at = record { enclave = 0; at = 0 }; size = Bytes32; lens = replicate 32 0 }

-- one object of n bytes, in the first slot
abbrev pub first_block : Addr → SlotSize → ℕ → SlabBlock
first_block at size n = record { at = at; size = size; lens = slice_set (replicate 32 0) 0 n }

-- the length of the object in a slot, 0 where there is none
abbrev pub len_at : SlabBlock → ℕ → ℕ
len_at block slot = slice_index block.lens slot

-- the block with an object of n bytes in a slot, none where n is 0
abbrev pub with_len : SlabBlock → ℕ → ℕ → SlabBlock
with_len block slot n = record block { lens = slice_set block.lens slot n }

-- where a slot starts
abbrev pub slot_address : SlabBlock → ℕ → Addr
slot_address block slot = record { enclave = block.at.enclave; at = block.at.at + slot_bytes block.size * slot }

-- some slot has an object
abbrev pub HasObject : SlabBlock → Type 0
HasObject block = (slot : ℕ) × (1 ≤ len_at block slot)

-- the slot is free, and each one before it has an object
pub record IsLowestFree (block : SlabBlock) (slot : ℕ) : Type 0 where
  pub within : slot < slot_count block.size
  pub free : len_at block slot ≡ 0
  pub before : (other : ℕ) → other < slot → 1 ≤ len_at block other

-- the lowest free slot of a block that has an object and slots of this size
pub record IsOffer (block : SlabBlock) (size : SlotSize) (slot : ℕ) : Type 0 where
  pub size_is : block.size ≡ size
  pub used : HasObject block
  pub lowest : IsLowestFree block slot
