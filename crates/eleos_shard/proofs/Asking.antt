-- What a put or a replace that was asked for answers.
use Rattle.std.proofs.Common.{◌≡◌, ◌≢◌, ◌⊎◌, ◌↔◌, inl, inr, ⊎_elim, ℕ, ◌<◌, ◌≤◌, List, length, replicate, get_or, cond, eqb, Option, Some, None, Result, Ok, Err, refl, sym, ap, ◌∙◌, subst, arith}
use Rattle.std.proofs.lemmas.Bool.{cases_eq, cases_lt}
use Rattle.std.proofs.lemmas.List.{get_or-replicate, get_or_past, length-replicate}
use Rattle.eleos_base.specs.Own.{Private}
use Rattle.eleos_base.specs.SubMemory.{MemoryState, owned}
use Rattle.eleos_sslab.specs.declared.block.SlabBlock.{SlabBlock}
use Rattle.eleos_sslab.specs.declared.slab.ObjId.{ObjId}
use Rattle.eleos_sslab.specs.declared.slab.SlabRefused.{SlabRefused}
use Rattle.eleos_sslab.specs.declared.slab.SlabRefused.TheVariants as slabs
use Rattle.eleos_sslab.specs.declared.size.SlotSize.{SlotSize}
use Rattle.eleos_sslab.specs.declared.size.SlotSize.TheVariants.{Bytes32, Bytes64, Bytes128, Bytes256, Bytes512}
use Rattle.eleos_sslab.specs.Blocks.{empty_block}
use Rattle.eleos_sslab.specs.Calls.{Moves, PutCalls, WritesHere}
use Rattle.eleos_sslab.specs.Sizes.{size_for, slot_bytes}
use Rattle.eleos_sslab.specs.Slabs.{IsFullFor, IsHeld, NeedsSlot, address_of, block_at, len_of}
use Rattle.eleos_sslab.proofs.Lengths.{zeros}
use Rattle.eleos_sslab.proofs.SlotSizes.{for_128, for_256, for_32, for_512, for_64}
use Rattle.eleos_shard.specs.Shards.{IsShard, ShardState}
use Rattle.eleos_shard.proofs.NeverFull.{never_full, never_full_for}
use Rattle.eleos_shard.proofs.Pieces.{RefusedBy, StoredBy, moved_by, not_written_by, refused_by, stored_by, written_by}

none_some : (n : ℕ) (size : SlotSize) → Some size ≡ size_for n → size_for n ≡ None → ⊥
none_some n size e f = let clash : Some size ≡ None = e ∙ f in cc

-- a value of 1 to 512 bytes has a slot size
pub has_size : (n : ℕ) → 1 ≤ n → n ≤ 512 → size_for n ≡ None → ⊥
has_size n some most none = ⊎_elim
    (λ (a : n < 33). none_some n Bytes32 (for_32 n some (omega (arith, a))) none)
    (λ (a : 33 ≤ n). ⊎_elim
    (λ (b : n < 65). none_some n Bytes64 (for_64 n a (omega (arith, b))) none)
    (λ (b : 65 ≤ n). ⊎_elim
    (λ (c : n < 129). none_some n Bytes128 (for_128 n b (omega (arith, c))) none)
    (λ (c : 129 ≤ n). ⊎_elim
    (λ (d : n < 257). none_some n Bytes256 (for_256 n c (omega (arith, d))) none)
    (λ (d : 257 ≤ n). none_some n Bytes512 (for_512 n d most) none)
    (cases_lt n 257))
    (cases_lt n 129))
    (cases_lt n 65))
    (cases_lt n 33)

-- sizes by their bytes
abbrev size_of_bytes : ℕ → SlotSize
size_of_bytes n = cond (eqb n 32) Bytes32 (cond (eqb n 64) Bytes64 (cond (eqb n 128) Bytes128 (cond (eqb n 256) Bytes256 Bytes512)))

bytes_back : (size : SlotSize) → size_of_bytes (slot_bytes size) ≡ size
bytes_back Bytes32 = refl
bytes_back Bytes64 = refl
bytes_back Bytes128 = refl
bytes_back Bytes256 = refl
bytes_back Bytes512 = refl

same_size : (a b : SlotSize) → slot_bytes a ≡ slot_bytes b → a ≡ b
same_size a b e = sym (bytes_back a) ∙ (ap size_of_bytes e ∙ bytes_back b)

abbrev size_or : SlotSize → Option SlotSize → SlotSize
size_or other None = other
size_or other (Some size) = size

-- a size is the one that is looked for, or not
cases_size : (o : Option SlotSize) (size : SlotSize) → (o ≡ Some size) ⊎ (o ≢ Some size)
cases_size None size = inr (λ (e : None ≡ Some size). cc)
cases_size (Some a) size = ⊎_elim
    (λ (e : slot_bytes a ≡ slot_bytes size). inl (ap (λ (z : SlotSize). Some z) (same_size a size e)))
    (λ (ne : slot_bytes a ≢ slot_bytes size). inr (λ (e : Some a ≡ Some size). ne (ap slot_bytes (ap (size_or a) e))))
    (cases_eq (slot_bytes a) (slot_bytes size))

module _ {O : Type 0} (m m' : MemoryState O) (s : ShardState) (is : IsShard (owned m) s) (bytes : List ℕ) (some : 1 ≤ length bytes) (most : length bytes ≤ 512) where
  abbrev refusal : SlabRefused → Result ObjId SlabRefused
  refusal why = Err why

  not_sized : (why : SlabRefused) → ((refusal why ≡ refusal slabs.BadSize) ↔ (size_for (length bytes) ≡ None)) → why ≢ slabs.BadSize
  not_sized why bad e = has_size (length bytes) some most (bad.0 (ap refusal e))

  -- a put is refused by the memory alone
  pub put_refused : (key : List ℕ) (blocks' : List SlabBlock) (why : SlabRefused) → ((refusal why ≡ refusal slabs.BadSize) ↔ (size_for (length bytes) ≡ None)) → ((refusal why ≡ refusal slabs.Full) ↔ IsFullFor s.blocks (size_for (length bytes)))
      → PutCalls m s.blocks bytes (refusal why) m' blocks' → RefusedBy m key bytes why m'
  put_refused key blocks' why bad full calls = refused_by m m' key bytes s.blocks blocks' why (not_sized why bad) (λ e. never_full_for (owned m) s is (size_for (length bytes)) (full.0 (ap refusal e))) calls

  no_slot : (id : ObjId) (o : Option SlotSize) → NeedsSlot s.blocks id o → ⊥
  no_slot id None needs = needs
  no_slot id (Some size) needs = never_full (owned m) s is size needs.1

  module _ (id : ObjId) (blocks' : List SlabBlock) where
    -- so is a replace
    pub replace_refused : (key : List ℕ) (why : SlabRefused) → ((refusal why ≡ refusal slabs.BadSize) ↔ (size_for (length bytes) ≡ None)) → ((refusal why ≡ refusal slabs.Full) ↔ NeedsSlot s.blocks id (size_for (length bytes)))
        → (size_for (length bytes) ≡ Some (block_at s.blocks id.block).size → WritesHere m s.blocks bytes id (refusal why) m' blocks') → (size_for (length bytes) ≢ Some (block_at s.blocks id.block).size → Moves m s.blocks bytes id (refusal why) m' blocks')
        → RefusedBy m key bytes why m'
    replace_refused key why bad full here moves = ⊎_elim
        (λ (e : size_for (length bytes) ≡ Some (block_at s.blocks id.block).size). not_written_by m m' key bytes s.blocks blocks' id why (here e))
        (λ (ne : size_for (length bytes) ≢ Some (block_at s.blocks id.block).size). refused_by m m' key bytes s.blocks blocks' why (not_sized why bad) (λ e. no_slot id (size_for (length bytes)) (full.0 (ap refusal e))) (moves ne))
        (cases_size (size_for (length bytes)) (block_at s.blocks id.block).size)

    -- one that is not refused writes the value where it lies then
    pub replace_stored : (new : ObjId) → (size_for (length bytes) ≡ Some (block_at s.blocks id.block).size → WritesHere m s.blocks bytes id (Ok new) m' blocks') → (size_for (length bytes) ≢ Some (block_at s.blocks id.block).size → Moves m s.blocks bytes id (Ok new) m' blocks')
        → StoredBy m bytes (address_of blocks' new) m'
    replace_stored new here moves = ⊎_elim
        (λ (e : size_for (length bytes) ≡ Some (block_at s.blocks id.block).size). written_by m m' s.blocks blocks' bytes id new (here e))
        (λ (ne : size_for (length bytes) ≢ Some (block_at s.blocks id.block).size). let w = moves ne in subst (λ z. StoredBy m bytes z m') (sym w.3) (moved_by m w.0 m' s.blocks w.1 blocks' bytes new id.block w.2 w.4))
        (cases_size (size_for (length bytes)) (block_at s.blocks id.block).size)

-- no object is in blocks that are empty
empty_at : (n i : ℕ) → block_at (replicate n empty_block) i ≡ empty_block
empty_at n i = ⊎_elim
    (λ (lt : i < n). get_or-replicate n i empty_block empty_block lt)
    (λ (le : n ≤ i). get_or_past (replicate n empty_block) i empty_block (omega (arith, le, length-replicate {A = SlabBlock} n empty_block)))
    (cases_lt i n)

pub none_in_empty : (n : ℕ) (id : ObjId) → IsHeld (replicate n empty_block) id → ⊥
none_in_empty n id held = let e : len_of (replicate n empty_block) id ≡ 0 = ap (λ (b : SlabBlock). get_or b.lens id.slot 0) (empty_at n id.block) ∙ zeros 32 id.slot in absurd (omega (arith, e, held))
