-- The calls of each command: their kinds and number, and what they show.
use Rattle.std.proofs.Common.{◌≡◌, ◌≢◌, ◌⊎◌, inl, inr, ⊎_elim, ℕ, ◌+◌, ◌≤◌, List, [], ◌∷◌, ◌++◌, length, Option, Some, None, Result, Ok, Err, refl, sym, ap, ◌∙◌, subst, arith}
use Rattle.eleos_base.specs.declared.memory.Addr.{Addr}
use Rattle.eleos_base.specs.declared.memory.Op.TheVariants as ops
use Rattle.eleos_base.specs.declared.memory.Reply.{Reply}
use Rattle.eleos_base.specs.declared.memory.Reply.TheVariants as replies
use Rattle.eleos_base.specs.declared.refusals.AccessRefused.{AccessRefused}
use Rattle.eleos_base.specs.declared.refusals.AccessRefused.TheVariants as accesses
use Rattle.eleos_base.specs.Answers.{access_refusal_reply}
use Rattle.eleos_base.specs.Own.{Said}
use Rattle.eleos_base.specs.SubMemory.{HasMade, IsWriteFault, MemoryState}
use Rattle.eleos_sslab.specs.declared.block.SlabBlock.{SlabBlock}
use Rattle.eleos_sslab.specs.declared.slab.ObjId.{ObjId}
use Rattle.eleos_sslab.specs.declared.slab.SlabRefused.{SlabRefused}
use Rattle.eleos_sslab.specs.declared.slab.SlabRefused.TheVariants.{BadSize, Full, NoSpace, Access}
use Rattle.eleos_sslab.specs.declared.size.SlotSize.{SlotSize}
use Rattle.eleos_sslab.specs.Blocks.{HasObject}
use Rattle.eleos_sslab.specs.Slabs.{address_of, block_at}
use Rattle.eleos_sslab.specs.Calls.{FreesEmpty, Moves, PutCalls, WritesFree, WritesHere, WritesNew, alloc_of, free_of, write_of}
use Rattle.eleos_sslab.proofs.Ranges.{made-append}
use Rattle.eleos_shard.specs.Shards.{ShardFacts}
use Rattle.eleos_shard.specs.Steps.{IsPiece, IsSetRefusal, Stands, TellSet, set_refusal}

-- no call
pub no_piece : IsPiece []
no_piece = record { one_alloc = omega arith; one_free = omega arith; one_access = omega arith; small = tt; few = omega arith }

-- one read, one write, one free, one alloc
pub read_piece : (at : Addr) (n : ℕ) (reply : Reply) → IsPiece ((ops.Read at n, reply) ∷ [])
read_piece at n reply = record { one_alloc = omega arith; one_free = omega arith; one_access = omega arith; small = (tt, tt); few = omega arith }

write_piece : (at : Addr) (bytes : List ℕ) (reply : Reply) → IsPiece (write_of at bytes reply ∷ [])
write_piece at bytes reply = record { one_alloc = omega arith; one_free = omega arith; one_access = omega arith; small = (tt, tt); few = omega arith }

pub free_piece : (at : Addr) → IsPiece (free_of at ∷ [])
free_piece at = record { one_alloc = omega arith; one_free = omega arith; one_access = omega arith; small = (tt, tt); few = omega arith }

alloc_piece : (reply : Reply) → IsPiece ((ops.Alloc 1024, reply) ∷ [])
alloc_piece reply = record { one_alloc = omega arith; one_free = omega arith; one_access = omega arith; small = (omega arith, tt); few = omega arith }

-- a write and a free, and both behind an alloc
write_free_piece : (at from : Addr) (bytes : List ℕ) (reply : Reply) → IsPiece (write_of at bytes reply ∷ free_of from ∷ [])
write_free_piece at from bytes reply = record { one_alloc = omega arith; one_free = omega arith; one_access = omega arith; small = (tt, (tt, tt)); few = omega arith }

new_piece : (at : Addr) (bytes : List ℕ) (reply : Reply) → IsPiece (alloc_of at ∷ write_of at bytes reply ∷ [])
new_piece at bytes reply = record { one_alloc = omega arith; one_free = omega arith; one_access = omega arith; small = (omega arith, (tt, tt)); few = omega arith }

new_free_piece : (at from : Addr) (bytes : List ℕ) (reply : Reply) → IsPiece (alloc_of at ∷ write_of at bytes reply ∷ free_of from ∷ [])
new_free_piece at from bytes reply = record { one_alloc = omega arith; one_free = omega arith; one_access = omega arith; small = (omega arith, (tt, (tt, tt))); few = omega arith }

module _ {O : Type 0} where
  -- the calls of a set that was stored: the value was written at its address
  pub record StoredBy (m : MemoryState O) (bytes : List ℕ) (at : Addr) (m' : MemoryState O) : Type 0 where
    pub piece : List Said
    pub made : HasMade m piece m'
    pub shape : IsPiece piece
    pub stands : Stands (ops.Write at bytes, replies.Done) piece

  -- the calls of a set that was refused, and its reply
  pub record RefusedBy (m : MemoryState O) (key bytes : List ℕ) (why : SlabRefused) (m' : MemoryState O) : Type 0 where
    pub piece : List Said
    pub made : HasMade m piece m'
    pub shape : IsPiece piece
    pub told : (after : ShardFacts) → TellSet key bytes (set_refusal why) after piece
    pub may : IsSetRefusal why

  module _ (m m' : MemoryState O) (blocks blocks' : List SlabBlock) (bytes : List ℕ) where
    -- a new object
    pub stored_by : (id : ObjId) → PutCalls m blocks bytes (Ok id) m' blocks' → StoredBy m bytes (address_of blocks' id) m'
    stored_by id h = ⊎_elim
        (λ (free : WritesFree m blocks h.0 bytes id replies.Done m' × (address_of blocks' id ≡ address_of blocks id)). in_slot free.0.made free.1)
        (λ (new : WritesNew m blocks h.0 bytes (address_of blocks' id) replies.Done [] m'). record { piece = _; made = new.made; shape = new_piece (address_of blocks' id) bytes replies.Done; stands = inr (inl refl) })
        h.2
      where
        in_slot : HasMade m (write_of (address_of blocks id) bytes replies.Done ∷ []) m' → address_of blocks' id ≡ address_of blocks id → StoredBy m bytes (address_of blocks' id) m'
        in_slot made same = subst (λ (z : Addr). StoredBy m bytes z m') (sym same) (record { piece = _; made = made; shape = write_piece (address_of blocks id) bytes replies.Done; stands = inl refl })

    -- an object that was written where it lies
    pub written_by : (id new : ObjId) → WritesHere m blocks bytes id (Ok new) m' blocks' → StoredBy m bytes (address_of blocks' new) m'
    written_by id new h = subst (λ (z : Addr). StoredBy m bytes z m') (sym h.1) (record { piece = _; made = h.2; shape = write_piece (address_of blocks id) bytes replies.Done; stands = inl refl })

  -- an object that went to another slot: its old block was freed, where it was the last one there
  module _ (m between m' : MemoryState O) (blocks stored blocks' : List SlabBlock) (bytes : List ℕ) (new : ObjId) (from : ℕ) where
    freed_by : HasMade between (free_of (block_at blocks' from).at ∷ []) m' → PutCalls m blocks bytes (Ok new) between stored → StoredBy m bytes (address_of stored new) m'
    freed_by freed h = ⊎_elim
        (λ (free : WritesFree m blocks h.0 bytes new replies.Done between × (address_of stored new ≡ address_of blocks new)).
        subst (λ (z : Addr). StoredBy m bytes z m') (sym free.1) (record { piece = _; made = made-append m between m' _ _ free.0.made freed; shape = write_free_piece (address_of blocks new) (block_at blocks' from).at bytes replies.Done; stands = inl refl }))
        (λ (fresh : WritesNew m blocks h.0 bytes (address_of stored new) replies.Done [] between).
        record { piece = _; made = made-append m between m' _ _ fresh.made freed; shape = new_free_piece (address_of stored new) (block_at blocks' from).at bytes replies.Done; stands = inr (inl refl) })
        h.2

    pub moved_by : PutCalls m blocks bytes (Ok new) between stored → FreesEmpty between blocks' from m' → StoredBy m bytes (address_of stored new) m'
    moved_by h frees = ⊎_elim
        (λ (kept : HasObject (block_at blocks' from) × (m' ≡ between)). subst (λ (z : MemoryState O). StoredBy m bytes (address_of stored new) z) (sym kept.1) (stored_by m between blocks stored bytes new h))
        (λ (freed : (HasObject (block_at blocks' from) → ⊥) × HasMade between (free_of (block_at blocks' from).at ∷ []) m'). freed_by freed.1 h)
        frees

  module _ (m m' : MemoryState O) (key bytes : List ℕ) where
    -- a write that was refused, with the calls about it
    by_write : (why : AccessRefused) (at : Addr) (piece : List Said) → IsWriteFault why → HasMade m piece m' → IsPiece piece → Stands (write_of at bytes (access_refusal_reply why)) piece → RefusedBy m key bytes (Access why) m'
    by_write (accesses.Worn s) at piece fault made shape stands = record { piece = piece; made = made; shape = shape; told = λ after. record { op = ops.Write at bytes; stands = stands }; may = fault }
    by_write (accesses.Tampered s) at piece fault made shape stands = record { piece = piece; made = made; shape = shape; told = λ after. record { op = ops.Write at bytes; stands = stands }; may = fault }
    by_write accesses.BadRange at piece fault made shape stands = absurd fault
    by_write accesses.Unallocated at piece fault made shape stands = absurd fault
    by_write (accesses.NotYours owner) at piece fault made shape stands = absurd fault

    module _ (blocks blocks' : List SlabBlock) where
      -- a new object that was refused, neither for its length nor for want of a block
      pub refused_by : (why : SlabRefused) → why ≢ BadSize → why ≢ Full → PutCalls m blocks bytes (Err why) m' blocks' → RefusedBy m key bytes why m'
      refused_by BadSize sized full h = absurd (sized refl)
      refused_by Full sized full h = absurd (full refl)
      refused_by NoSpace sized full h = record { piece = _; made = h; shape = alloc_piece replies.NoSpace; told = λ after. record { op = ops.Alloc 1024; stands = inl refl }; may = tt }
      refused_by (Access why) sized full h = ⊎_elim
          (λ (free : (id : ObjId) × WritesFree m blocks h.0 bytes id (access_refusal_reply why) m'). by_write why (address_of blocks free.0) _ h.2 free.1.made (write_piece (address_of blocks free.0) bytes (access_refusal_reply why)) (inl refl))
          (λ (new : (at : Addr) × WritesNew m blocks h.0 bytes at (access_refusal_reply why) (free_of at ∷ []) m'). by_write why new.0 _ h.2 new.1.made (new_free_piece new.0 new.0 bytes (access_refusal_reply why)) (inr (inl refl)))
          h.3

      -- an object that was not written where it lies
      pub not_written_by : (id : ObjId) (why : SlabRefused) → WritesHere m blocks bytes id (Err why) m' blocks' → RefusedBy m key bytes why m'
      not_written_by id BadSize h = absurd h
      not_written_by id Full h = absurd h
      not_written_by id NoSpace h = absurd h
      not_written_by id (Access why) h = by_write why (address_of blocks id) _ h.0 h.1 (write_piece (address_of blocks id) bytes (access_refusal_reply why)) (inl refl)
