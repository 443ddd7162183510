-- What each call on the memory leaves of a slab.
use Rattle.std.proofs.Common.{◌≡◌, ◌↔◌, inl, inr, ℕ, ◌<◌, ◌≤◌, List, [], ◌∷◌, length, set, false, Result, Err, IsOk, refl, sym, ap, ◌∙◌, subst, arith}
use Rattle.std.proofs.lemmas.Bool.{false≢true}
use Rattle.eleos_base.specs.declared.memory.Addr.{Addr}
use Rattle.eleos_base.specs.declared.memory.Op.{Op}
use Rattle.eleos_base.specs.declared.memory.Op.TheVariants as ops
use Rattle.eleos_base.specs.declared.memory.Reply.{Reply}
use Rattle.eleos_base.specs.declared.memory.Reply.TheVariants.{Done, Got, NoSpace}
use Rattle.eleos_base.specs.declared.refusals.AccessRefused.{AccessRefused}
use Rattle.eleos_base.specs.declared.refusals.AllocRefused.{AllocRefused}
use Rattle.eleos_base.specs.declared.refusals.AllocRefused.TheVariants as allocs
use Rattle.eleos_base.specs.declared.refusals.BlockRefused.{BlockRefused}
use Rattle.eleos_base.specs.Answers.{access_refusal_reply, alloc_reply, block_reply}
use Rattle.eleos_base.specs.Own.{IsNew, IsOwnRange, IsOwnStart, Private, after_alloc, after_loss, after_write, block_of, text_at}
use Rattle.eleos_base.specs.Plain.{is_good_size}
use Rattle.eleos_base.specs.SubMemory.{HasCalled, HasMade, MemoryState, owned}
use Rattle.eleos_base.proofs.OwnMemory.{ok_is_done, owned-made, same_text}
use Rattle.eleos_sslab.specs.declared.block.SlabBlock.{SlabBlock}
use Rattle.eleos_sslab.specs.declared.slab.ObjId.{ObjId}
use Rattle.eleos_sslab.specs.declared.size.SlotSize.{SlotSize}
use Rattle.eleos_sslab.specs.Blocks.{HasObject, first_block}
use Rattle.eleos_sslab.specs.Slabs.{IsHeld, IsInSlot, IsSlab, KeepsOthers, address_of, block_at, len_of, object, with_object}
use Rattle.eleos_sslab.specs.Calls.{FreesEmpty, HasStored, KeepsObjects, alloc_of, free_of, write_of}
use Rattle.eleos_sslab.proofs.Ranges.{made-append, not_written, own_range, among-without}
use Rattle.eleos_sslab.proofs.Storing.{at_same, before, keeps_with, keeps_written, len_is, place_same, slab_with, slab_written, text_written}
use Rattle.eleos_sslab.proofs.NewBlocks.{keeps_new, kept_freed, len_new, new_range, new_start, place_new, slab_freed, slab_new, text_new}

abbrev refusal_of : AllocRefused → Result Addr AllocRefused
refusal_of why = Err why

-- the loss of a block changes no text
loses_no_text : (p : Private) (at : Addr) (start n : ℕ) → text_at (after_loss at Done p) start n ≡ text_at p start n
loses_no_text p at start n = same_text (after_loss at Done p) p start n (λ a from below. refl)

module _ {O : Type 0} where
  pub called_as : (m m' : MemoryState O) (op op' : Op) (reply reply' : Reply) → op ≡ op' → reply ≡ reply' → HasCalled m op reply m' → HasCalled m op' reply' m'
  called_as m m' op op' reply reply' e e' h = subst (λ (z : Op). HasCalled m z reply' m') e (subst (λ (z : Reply). HasCalled m op z m') e' h)

  -- the range of an object, at an address that is its
  pub range_as : (m : MemoryState O) (blocks : List SlabBlock) (id : ObjId) (n : ℕ) (at : Addr) → IsSlab (owned m) blocks → HasObject (block_at blocks id.block) → IsInSlot (block_at blocks id.block).size id.slot n → 1 ≤ n → at ≡ address_of blocks id → IsOwnRange 1024 (owned m) at n
  range_as m blocks id n at s used i some e = subst (λ (z : Addr). IsOwnRange 1024 (owned m) z n) (sym e) (own_range (owned m) (block_at blocks id.block) id.slot n (s.homes id.block used) i some)

  -- an object that was written
  pub stored_at : (m m' : MemoryState O) (blocks blocks' : List SlabBlock) (id : ObjId) (bytes : List ℕ) → IsSlab (owned m) blocks → HasObject (block_at blocks id.block) → IsInSlot (block_at blocks id.block).size id.slot (length bytes)
      → blocks' ≡ with_object blocks id (length bytes) → HasCalled m (ops.Write (address_of blocks id) bytes) Done m' → HasStored m blocks bytes id m' blocks'
  stored_at m m' blocks blocks' id bytes s used i f called = let e = owned-made m m' ((ops.Write (address_of blocks id) bytes, Done) ∷ []) called in subst (λ (z : List SlabBlock). HasStored m blocks bytes id m' z) (sym f) (record {
    len = len_is (owned m) (owned m) blocks id (length bytes) s used i;
    text = ap (λ (q : Private). object q (with_object blocks id (length bytes)) id) e ∙ text_written (owned m) blocks id bytes s used i;
    others = subst (λ (q : Private). KeepsOthers (owned m) blocks id q (with_object blocks id (length bytes))) (sym e) (keeps_written (owned m) blocks id bytes s used i);
  })

  pub slab_at : (m m' : MemoryState O) (blocks blocks' : List SlabBlock) (id : ObjId) (bytes : List ℕ) → IsSlab (owned m) blocks → HasObject (block_at blocks id.block) → IsInSlot (block_at blocks id.block).size id.slot (length bytes)
      → blocks' ≡ with_object blocks id (length bytes) → HasCalled m (ops.Write (address_of blocks id) bytes) Done m' → IsSlab (owned m') blocks'
  slab_at m m' blocks blocks' id bytes s used i f called = let e = owned-made m m' ((ops.Write (address_of blocks id) bytes, Done) ∷ []) called in
      subst (λ (z : List SlabBlock). IsSlab (owned m') z) (sym f) (subst (λ (q : Private). IsSlab q (with_object blocks id (length bytes))) (sym e) (slab_written (owned m) blocks id bytes s used i))

  pub place_at : (m : MemoryState O) (blocks blocks' : List SlabBlock) (id : ObjId) (n : ℕ) → IsSlab (owned m) blocks → HasObject (block_at blocks id.block) → IsInSlot (block_at blocks id.block).size id.slot n → blocks' ≡ with_object blocks id n → address_of blocks' id ≡ address_of blocks id
  place_at m blocks blocks' id n s used i f = ap (λ (z : List SlabBlock). address_of z id) f ∙ place_same (owned m) (owned m) blocks id n s used i id

  -- a refused write changes no private memory
  pub owned-refused : (m m' : MemoryState O) (at : Addr) (bytes : List ℕ) (why : AccessRefused) → HasCalled m (ops.Write at bytes) (access_refusal_reply why) m' → owned m' ≡ owned m
  owned-refused m m' at bytes why called = owned-made m m' ((ops.Write at bytes, access_refusal_reply why) ∷ []) called ∙ not_written at bytes why (owned m)

  -- with the same private memory a slab is as it was
  pub slab_by : (m m' : MemoryState O) (blocks : List SlabBlock) → owned m' ≡ owned m → IsSlab (owned m) blocks → IsSlab (owned m') blocks
  slab_by m m' blocks e s = subst (λ (p : Private). IsSlab p blocks) (sym e) s

  pub kept_by : (m m' : MemoryState O) (blocks : List SlabBlock) → owned m' ≡ owned m → KeepsObjects (owned m) blocks (owned m')
  kept_by m m' blocks e id = ap (λ (p : Private). object p blocks id) e

  pub owned-no_space : (m m' : MemoryState O) → HasCalled m (ops.Alloc 1024) NoSpace m' → owned m' ≡ owned m
  owned-no_space m m' called = owned-made m m' ((ops.Alloc 1024, NoSpace) ∷ []) called

  -- an alloc of a block is refused for want of space alone
  pub no_space : (m m' : MemoryState O) (why : AllocRefused) → ((refusal_of why ≡ refusal_of allocs.BadSize) ↔ (is_good_size 1024 ≡ false)) → HasCalled m (ops.Alloc 1024) (alloc_reply (Err why)) m' → HasCalled m (ops.Alloc 1024) NoSpace m'
  no_space m m' allocs.BadSize sized called = absurd (false≢true (sym (sized.0 refl)))
  no_space m m' allocs.NoSpace sized called = called

  -- an object that was written into a new block
  pub owned-new : (m m₁ m₂ : MemoryState O) (at : Addr) (bytes : List ℕ) → HasCalled m (ops.Alloc 1024) (Got at) m₁ → HasCalled m₁ (ops.Write at bytes) Done m₂ → owned m₂ ≡ after_write at bytes Done (after_alloc 1024 1024 (Got at) (owned m))
  owned-new m m₁ m₂ at bytes a w = owned-made m m₂ (alloc_of at ∷ write_of at bytes Done ∷ []) (made-append m m₁ m₂ _ _ a w)

  module _ (m m₁ m₂ : MemoryState O) (blocks : List SlabBlock) (at : Addr) (place : ℕ) (size : SlotSize) (bytes : List ℕ) (s : IsSlab (owned m) blocks) (new : IsNew 1024 (owned m) (block_of 1024 at 1024)) (within : place < length blocks)
      (empty : HasObject (block_at blocks place) → ⊥) (i : IsInSlot size 0 (length bytes)) (a : HasCalled m (ops.Alloc 1024) (Got at) m₁) (w : HasCalled m₁ (ops.Write at bytes) Done m₂) (blocks' : List SlabBlock) (f : blocks' ≡ set blocks place (first_block at size (length bytes))) where
    pub stored_new : HasStored m blocks bytes (record { block = place; slot = 0 }) m₂ blocks'
    stored_new = let e = owned-new m m₁ m₂ at bytes a w in subst (λ (z : List SlabBlock). HasStored m blocks bytes (record { block = place; slot = 0 }) m₂ z) (sym f) (record {
      len = len_new (owned m) blocks at s new place size bytes within empty i;
      text = ap (λ (q : Private). object q (set blocks place (first_block at size (length bytes))) (record { block = place; slot = 0 })) e ∙ text_new (owned m) blocks at s new place size bytes within empty i;
      others = subst (λ (q : Private). KeepsOthers (owned m) blocks (record { block = place; slot = 0 }) q (set blocks place (first_block at size (length bytes)))) (sym e) (keeps_new (owned m) blocks at s new place size bytes within empty i);
    })

    pub slab_stored : IsSlab (owned m₂) blocks'
    slab_stored = subst (λ (z : List SlabBlock). IsSlab (owned m₂) z) (sym f) (subst (λ (q : Private). IsSlab q (set blocks place (first_block at size (length bytes)))) (sym (owned-new m m₁ m₂ at bytes a w)) (slab_new (owned m) blocks at s new place size bytes within empty i))

    pub calls_stored : HasMade m (alloc_of (address_of blocks' (record { block = place; slot = 0 })) ∷ write_of (address_of blocks' (record { block = place; slot = 0 })) bytes Done ∷ []) m₂
    calls_stored = let e : address_of blocks' (record { block = place; slot = 0 }) ≡ at = ap (λ (z : List SlabBlock). address_of z (record { block = place; slot = 0 })) f ∙ place_new (owned m) blocks at s new place size bytes within empty i in
        subst (λ (z : Addr). HasMade m (alloc_of z ∷ write_of z bytes Done ∷ []) m₂) (sym e) (made-append m m₁ m₂ _ _ a w)

  -- a new block whose write was refused was freed again
  module _ (m m₁ m₂ m₃ : MemoryState O) (blocks : List SlabBlock) (at : Addr) (bytes : List ℕ) (why : AccessRefused) (r : Result (Unit {0}) BlockRefused) (s : IsSlab (owned m) blocks) (new : IsNew 1024 (owned m) (block_of 1024 at 1024))
      (a : HasCalled m (ops.Alloc 1024) (Got at) m₁) (w : HasCalled m₁ (ops.Write at bytes) (access_refusal_reply why) m₂) (f : HasCalled m₂ (ops.Free at) (block_reply r) m₃) (ok : IsOwnStart (owned m₂) at → IsOk r) where
    owned_two : owned m₂ ≡ after_alloc 1024 1024 (Got at) (owned m)
    owned_two = owned-refused m₁ m₂ at bytes why w ∙ owned-made m m₁ (alloc_of at ∷ []) a

    freed : HasCalled m₂ (ops.Free at) Done m₃
    freed = called_as m₂ m₃ (ops.Free at) (ops.Free at) (block_reply r) Done refl (ok_is_done r (ok (subst (λ (p : Private). IsOwnStart p at) (sym owned_two) (new_start (owned m) at)))) f

    owned_three : owned m₃ ≡ after_loss at Done (after_alloc 1024 1024 (Got at) (owned m))
    owned_three = owned-made m₂ m₃ (free_of at ∷ []) freed ∙ ap (after_loss at Done) owned_two

    pub calls_freed : HasMade m (alloc_of at ∷ write_of at bytes (access_refusal_reply why) ∷ free_of at ∷ []) m₃
    calls_freed = made-append m m₂ m₃ _ _ (made-append m m₁ m₂ _ _ a w) freed

    pub slab_refused : IsSlab (owned m₃) blocks
    slab_refused = subst (λ (p : Private). IsSlab p blocks) (sym owned_three) (slab_freed (owned m) blocks at s new)

    pub kept_refused : KeepsObjects (owned m) blocks (owned m₃)
    kept_refused id = ap (λ (p : Private). object p blocks id) owned_three ∙ kept_freed (owned m) blocks at s new id

  pub fault_new : (m m₁ : MemoryState O) (at : Addr) (n : ℕ) → IsNew 1024 (owned m) (block_of 1024 at 1024) → HasCalled m (ops.Alloc 1024) (Got at) m₁ → 1 ≤ n → n ≤ 512 → IsOwnRange 1024 (owned m₁) at n
  fault_new m m₁ at n new a some most = subst (λ (p : Private). IsOwnRange 1024 p at n) (sym (owned-made m m₁ (alloc_of at ∷ []) a)) (new_range (owned m) at n new some most)

  -- an object that was given up
  module _ (m : MemoryState O) (blocks : List SlabBlock) (id : ObjId) (s : IsSlab (owned m) blocks) (held : IsHeld blocks id) where
    no_bytes : IsInSlot (block_at blocks id.block).size id.slot 0
    no_bytes = let k = s.slots id held in record { in_block = k.in_block; in_slot = omega arith }

    pub start_of : IsOwnStart (owned m) (block_at (with_object blocks id 0) id.block).at
    start_of = subst (λ (z : Addr). IsOwnStart (owned m) z) (sym (at_same (owned m) (owned m) blocks id 0 s (id.slot, held) no_bytes id.block)) (record { block = block_of 1024 (block_at blocks id.block).at 1024; among = (s.homes id.block (id.slot, held)).among; home = refl; starts = refl })

    pub gone_is : len_of (with_object blocks id 0) id ≡ 0
    gone_is = len_is (owned m) (owned m) blocks id 0 s (id.slot, held) no_bytes

    pub taken_slab : (m' : MemoryState O) → FreesEmpty m (with_object blocks id 0) id.block m' → IsSlab (owned m') (with_object blocks id 0)
    taken_slab m' (inl h) = subst (λ (z : MemoryState O). IsSlab (owned z) (with_object blocks id 0)) (sym h.1) (slab_with (owned m) (owned m) blocks id 0 s (id.slot, held) no_bytes (λ j used home. home))
    taken_slab m' (inr h) = let at = (block_at (with_object blocks id 0) id.block).at in subst (λ (p : Private). IsSlab p (with_object blocks id 0)) (sym (owned-made m m' (free_of at ∷ []) h.1))
        (slab_with (owned m) (after_loss at Done (owned m)) blocks id 0 s (id.slot, held) no_bytes (λ j used home. record {
          among = among-without at.at (block_of 1024 (block_at blocks j).at 1024) (owned m).blocks
              (λ e. s.apart j id.block (before (owned m) (owned m) blocks id 0 s (id.slot, held) no_bytes j used) (id.slot, held) (λ x. h.0 (subst (λ (k : ℕ). HasObject (block_at (with_object blocks id 0) k)) x used))
              (e ∙ ap (λ (z : Addr). z.at) (at_same (owned m) (owned m) blocks id 0 s (id.slot, held) no_bytes id.block))) home.among;
          whole = home.whole;
          fits = home.fits;
        }))

    pub taken_others : (m' : MemoryState O) → FreesEmpty m (with_object blocks id 0) id.block m' → KeepsOthers (owned m) blocks id (owned m') (with_object blocks id 0)
    taken_others m' (inl h) = subst (λ (z : MemoryState O). KeepsOthers (owned m) blocks id (owned z) (with_object blocks id 0)) (sym h.1) (keeps_with (owned m) (owned m) blocks id 0 s (id.slot, held) no_bytes (λ o ne there. refl))
    taken_others m' (inr h) = let at = (block_at (with_object blocks id 0) id.block).at in subst (λ (p : Private). KeepsOthers (owned m) blocks id p (with_object blocks id 0)) (sym (owned-made m m' (free_of at ∷ []) h.1))
        (keeps_with (owned m) (after_loss at Done (owned m)) blocks id 0 s (id.slot, held) no_bytes (λ o ne there. loses_no_text (owned m) at (address_of blocks o).at (len_of blocks o)))
