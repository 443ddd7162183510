-- What a put says by its branches.
use Rattle.std.proofs.Common.{◌≡◌, ◌≢◌, ◌↔◌, inr, ℕ, ◌<◌, ◌≤◌, List, length, Option, Some, Result, Ok, Err, refl, sym, ap, ◌∙◌, subst, arith}
use Rattle.eleos_base.specs.Own.{Private}
use Rattle.eleos_base.specs.SubMemory.{MemoryState, owned}
use Rattle.eleos_sslab.specs.declared.block.SlabBlock.{SlabBlock}
use Rattle.eleos_sslab.specs.declared.slab.ObjId.{ObjId}
use Rattle.eleos_sslab.specs.declared.slab.SlabRefused.{SlabRefused}
use Rattle.eleos_sslab.specs.declared.slab.SlabRefused.TheVariants.{BadSize, Full, NoSpace, Access}
use Rattle.eleos_sslab.specs.declared.size.SlotSize.{SlotSize}
use Rattle.eleos_sslab.specs.Sizes.{size_for, slot_bytes}
use Rattle.eleos_sslab.specs.Blocks.{HasObject}
use Rattle.eleos_sslab.specs.Slabs.{HasNoFree, IsFirstFree, IsFull, IsFullFor, IsHeld, IsInSlot, KeepsOthers, address_of, block_at, len_of}
use Rattle.eleos_sslab.specs.Calls.{HasReplaced, HasStored, NewCalls, PutCalls}
use Rattle.eleos_sslab.proofs.SlotSizes.{count_some, fits_in}

-- the first free slot holds an object of its size
pub free_slot_fits : (blocks : List SlabBlock) (size : SlotSize) (id : ObjId) (n : ℕ) → IsFirstFree blocks size id → size_for n ≡ Some size → IsInSlot (block_at blocks id.block).size id.slot n
free_slot_fits blocks size id n free e = record { in_block = free.offer.lowest.within; in_slot = subst (λ (z : SlotSize). n ≤ slot_bytes z) (sym free.offer.size_is) (fits_in n size e).1 }

pub first_slot_fits : (size : SlotSize) (n : ℕ) → size_for n ≡ Some size → IsInSlot size 0 n
first_slot_fits size n e = record { in_block = count_some size; in_slot = (fits_in n size e).1 }

-- where a slot is free the slab is not full
pub free_not_full : (blocks : List SlabBlock) (size : SlotSize) (id : ObjId) → IsFirstFree blocks size id → IsFull blocks size → ⊥
free_not_full blocks size id free full = full.none_free id.block free.within id.slot free.offer

-- nor where a block has no object
pub empty_not_full : (blocks : List SlabBlock) (size : SlotSize) (place : ℕ) → place < length blocks → (HasObject (block_at blocks place) → ⊥) → IsFull blocks size → ⊥
empty_not_full blocks size place within empty full = empty (full.all_used place within)

-- full for the size that was found
pub full_for : {P : Type 0} (blocks : List SlabBlock) (size : SlotSize) (o : Option SlotSize) → o ≡ Some size → (P ↔ IsFull blocks size) → (P ↔ IsFullFor blocks o)
full_for {P = P} blocks size o e h = subst (λ (z : Option SlotSize). P ↔ IsFullFor blocks z) (sym e) h

module _ {O : Type 0} (m m' : MemoryState O) (blocks blocks' : List SlabBlock) (size : SlotSize) (bytes : List ℕ) where
  -- the calls that store in a new block are those of a put where no slot was free
  pub new_put : (r : Result ObjId SlabRefused) → size_for (length bytes) ≡ Some size → HasNoFree blocks size → NewCalls m bytes r m' blocks' → PutCalls m blocks bytes r m' blocks'
  new_put (Ok id) e none h = (size, e, inr (record { none = none; made = h }))
  new_put (Err BadSize) e none h = absurd h
  new_put (Err Full) e none h = absurd h
  new_put (Err NoSpace) e none h = h
  new_put (Err (Access why)) e none h = (size, e, h.0, inr (h.1.0, record { none = none; made = h.1.1 }))

  -- and refuse neither the size nor for want of a slot
  pub new_sized : (r : Result ObjId SlabRefused) → NewCalls m bytes r m' blocks' → r ≢ Err BadSize
  new_sized (Ok id) h x = cc
  new_sized (Err BadSize) h x = h
  new_sized (Err Full) h x = h
  new_sized (Err NoSpace) h x = cc
  new_sized (Err (Access why)) h x = cc

  pub new_not_full : (r : Result ObjId SlabRefused) → NewCalls m bytes r m' blocks' → r ≢ Err Full
  new_not_full (Ok id) h x = cc
  new_not_full (Err BadSize) h x = h
  new_not_full (Err Full) h x = h
  new_not_full (Err NoSpace) h x = cc
  new_not_full (Err (Access why)) h x = cc

-- an object that was written where it lies was replaced there
pub replaced_here : {O : Type 0} (m m' : MemoryState O) (blocks blocks' : List SlabBlock) (bytes : List ℕ) (id : ObjId) → HasStored m blocks bytes id m' blocks' → HasReplaced m blocks bytes id id m' blocks'
replaced_here m m' blocks blocks' bytes id h = record {
  len = h.len;
  text = h.text;
  fresh = λ ne. absurd (ne refl);
  gone = λ ne. absurd (ne refl);
  many = h.others.many;
  lens = λ o ne _. h.others.lens o ne;
  places = λ o ne _ held. h.others.places o ne held;
  objects = λ o ne _. h.others.objects o ne;
}

-- so was one that was stored elsewhere and then given up where it was
pub replaced_there : {O : Type 0} (m m₁ m' : MemoryState O) (blocks stored blocks' : List SlabBlock) (bytes : List ℕ) (id new : ObjId) → IsHeld blocks id → len_of blocks new ≡ 0 → HasStored m blocks bytes new m₁ stored
    → len_of blocks' id ≡ 0 → KeepsOthers (owned m₁) stored id (owned m') blocks' → HasReplaced m blocks bytes id new m' blocks'
replaced_there m m₁ m' blocks stored blocks' bytes id new held free h gone others = record {
  len = others.lens new differ ∙ h.len;
  text = others.objects new differ ∙ h.text;
  fresh = λ ne. free;
  gone = λ ne. gone;
  many = others.many ∙ h.others.many;
  lens = λ o ne d. others.lens o ne ∙ h.others.lens o d;
  places = λ o ne d there. others.places o ne (subst (λ (z : ℕ). 1 ≤ z) (sym (h.others.lens o d)) there) ∙ h.others.places o d there;
  objects = λ o ne d. others.objects o ne ∙ h.others.objects o d;
}
  where
    differ : new ≢ id
    differ e = let x : len_of blocks id ≡ 0 = sym (ap (len_of blocks) e) ∙ free in absurd (omega (arith, x, held))

-- and lies where it was stored
pub moved_at : (p p' : Private) (blocks stored blocks' : List SlabBlock) (bytes : List ℕ) (id new : ObjId) → IsHeld blocks id → len_of blocks new ≡ 0 → 1 ≤ length bytes → len_of stored new ≡ length bytes → KeepsOthers p stored id p' blocks' → address_of blocks' new ≡ address_of stored new
moved_at p p' blocks stored blocks' bytes id new held free some long others = others.places new
    (λ e. let x : len_of blocks id ≡ 0 = sym (ap (len_of blocks) e) ∙ free in absurd (omega (arith, x, held)))
    (subst (λ (z : ℕ). 1 ≤ z) (sym long) some)

-- the old object is there still once the new one is stored
pub held_still : {O : Type 0} (m m₁ : MemoryState O) (blocks stored : List SlabBlock) (bytes : List ℕ) (id new : ObjId) → IsHeld blocks id → len_of blocks new ≡ 0 → HasStored m blocks bytes new m₁ stored → IsHeld stored id
held_still m m₁ blocks stored bytes id new held free h = subst (λ (z : ℕ). 1 ≤ z) (sym (h.others.lens id (λ e. let x : len_of blocks id ≡ 0 = ap (len_of blocks) e ∙ free in absurd (omega (arith, x, held))))) held
