-- What is left of a slab after a length was changed.
use Rattle.std.proofs.Common.{◌≡◌, ◌≢◌, ⊎_elim, ℕ, ◌<◌, ◌≤◌, List, length, refl, sym, ap, ◌∙◌, subst, arith}
use Rattle.std.proofs.lemmas.Bool.{cases_eq}
use Rattle.std.proofs.lemmas.List.{length-set}
use Rattle.eleos_base.specs.declared.memory.Addr.{Addr}
use Rattle.eleos_base.specs.declared.memory.Reply.TheVariants.{Done}
use Rattle.eleos_base.specs.Own.{Private, after_write, text_at}
use Rattle.eleos_base.proofs.OwnMemory.{written_text}
use Rattle.eleos_sslab.specs.declared.block.SlabBlock.{SlabBlock}
use Rattle.eleos_sslab.specs.declared.slab.ObjId.{ObjId}
use Rattle.eleos_sslab.specs.declared.size.SlotSize.{SlotSize}
use Rattle.eleos_sslab.specs.Blocks.{HasObject, slot_address}
use Rattle.eleos_sslab.specs.Slabs.{IsHeld, IsHome, IsInSlot, IsSlab, KeepsOthers, address_of, block_at, len_of, object, with_object}
use Rattle.eleos_sslab.proofs.Lengths.{block_part, len_else, len_here, same_id, used_before, used_within}
use Rattle.eleos_sslab.proofs.Ranges.{objects_apart, text_apart, texts_same}
use Rattle.eleos_sslab.proofs.SlotSizes.{slot_most}

module _ (p p' : Private) (blocks : List SlabBlock) (id : ObjId) (n : ℕ) (s : IsSlab p blocks) (used : HasObject (block_at blocks id.block)) (i : IsInSlot (block_at blocks id.block).size id.slot n) where
  within : id.block < length blocks
  within = used_within blocks id.block used

  pub before : (j : ℕ) → HasObject (block_at (with_object blocks id n) j) → HasObject (block_at blocks j)
  before = used_before blocks id n within used

  pub at_same : (j : ℕ) → (block_at (with_object blocks id n) j).at ≡ (block_at blocks j).at
  at_same j = block_part blocks id n within (λ (b : SlabBlock). b.at) j (λ e. refl)

  size_same : (j : ℕ) → (block_at (with_object blocks id n) j).size ≡ (block_at blocks j).size
  size_same j = block_part blocks id n within (λ (b : SlabBlock). b.size) j (λ e. refl)

  -- an object stays where it is
  pub place_same : (o : ObjId) → address_of (with_object blocks id n) o ≡ address_of blocks o
  place_same o = block_part blocks id n within (λ (b : SlabBlock). slot_address b o.slot) o.block (λ e. refl)

  pub len_is : len_of (with_object blocks id n) id ≡ n
  len_is = len_here blocks id n within (let below = slot_most (block_at blocks id.block).size id.slot i.in_block in let w = s.wide id.block in omega (arith, below, w))

  slot_here : IsInSlot (block_at (with_object blocks id n) id.block).size id.slot (len_of (with_object blocks id n) id)
  slot_here = subst (λ (z : SlotSize). IsInSlot z id.slot (len_of (with_object blocks id n) id)) (sym (size_same id.block)) (subst (λ (z : ℕ). IsInSlot (block_at blocks id.block).size id.slot z) (sym len_is) i)

  slot_else : (o : ObjId) → o ≢ id → IsHeld (with_object blocks id n) o → IsInSlot (block_at (with_object blocks id n) o.block).size o.slot (len_of (with_object blocks id n) o)
  slot_else o ne held = let e = len_else blocks id n within o ne in subst (λ (z : SlotSize). IsInSlot z o.slot (len_of (with_object blocks id n) o)) (sym (size_same o.block))
      (subst (λ (z : ℕ). IsInSlot (block_at blocks o.block).size o.slot z) (sym e) (s.slots o (subst (λ (z : ℕ). 1 ≤ z) e held)))

  slot_of : (o : ObjId) → IsHeld (with_object blocks id n) o → IsInSlot (block_at (with_object blocks id n) o.block).size o.slot (len_of (with_object blocks id n) o)
  slot_of o held = ⊎_elim
      (λ (e : o.block ≡ id.block). ⊎_elim
      (λ (f : o.slot ≡ id.slot). subst (λ (x : ObjId). IsInSlot (block_at (with_object blocks id n) x.block).size x.slot (len_of (with_object blocks id n) x)) (sym (same_id o id e f)) slot_here)
      (λ (d : o.slot ≢ id.slot). slot_else o (λ x. d (ap (λ (y : ObjId). y.slot) x)) held)
      (cases_eq o.slot id.slot))
      (λ (d : o.block ≢ id.block). slot_else o (λ x. d (ap (λ (y : ObjId). y.block) x)) held)
      (cases_eq o.block id.block)

  -- it is a slab still, where the blocks with an object stay private
  pub slab_with : ((j : ℕ) → HasObject (block_at (with_object blocks id n) j) → IsHome p (block_at blocks j).at → IsHome p' (block_at blocks j).at) → IsSlab p' (with_object blocks id n)
  slab_with keep = record {
    homes = λ j h. subst (IsHome p') (sym (at_same j)) (keep j h (s.homes j (before j h)));
    apart = λ j k h g ne e. s.apart j k (before j h) (before k g) ne (sym (ap (λ (a : Addr). a.at) (at_same j)) ∙ (e ∙ ap (λ (a : Addr). a.at) (at_same k)));
    wide = λ j. block_part blocks id n within (λ (b : SlabBlock). length b.lens) j (λ e. length-set (block_at blocks id.block).lens id.slot n) ∙ s.wide j;
    slots = slot_of;
  }

  -- no other object is changed, where the bytes of each stay
  pub keeps_with : ((o : ObjId) → o ≢ id → IsHeld blocks o → text_at p' (address_of blocks o).at (len_of blocks o) ≡ text_at p (address_of blocks o).at (len_of blocks o)) → KeepsOthers p blocks id p' (with_object blocks id n)
  keeps_with same = record {
    many = length-set blocks id.block _;
    lens = len_else blocks id n within;
    places = λ o ne held. place_same o;
    objects = λ o ne. ap (λ (z : Addr). text_at p' z.at (len_of (with_object blocks id n) o)) (place_same o)
        ∙ (ap (λ (z : ℕ). text_at p' (address_of blocks o).at z) (len_else blocks id n within o ne) ∙ texts_same p' p (address_of blocks o).at (len_of blocks o) (same o ne));
  }

-- an object that is written has its bytes, and no other one is changed
module _ (p : Private) (blocks : List SlabBlock) (id : ObjId) (bytes : List ℕ) (s : IsSlab p blocks) (used : HasObject (block_at blocks id.block)) (i : IsInSlot (block_at blocks id.block).size id.slot (length bytes)) where
  pub slab_written : IsSlab (after_write (address_of blocks id) bytes Done p) (with_object blocks id (length bytes))
  slab_written = slab_with p (after_write (address_of blocks id) bytes Done p) blocks id (length bytes) s used i (λ j h home. record { among = home.among; whole = home.whole; fits = home.fits })

  pub keeps_written : KeepsOthers p blocks id (after_write (address_of blocks id) bytes Done p) (with_object blocks id (length bytes))
  keeps_written = keeps_with p (after_write (address_of blocks id) bytes Done p) blocks id (length bytes) s used i (λ o ne held. text_apart p (address_of blocks id).at bytes (address_of blocks o).at (len_of blocks o) (objects_apart p blocks id (length bytes) s used i o ne held))

  pub text_written : object (after_write (address_of blocks id) bytes Done p) (with_object blocks id (length bytes)) id ≡ bytes
  text_written = let q = after_write (address_of blocks id) bytes Done p in ap (λ (z : Addr). text_at q z.at (len_of (with_object blocks id (length bytes)) id)) (place_same p q blocks id (length bytes) s used i id)
      ∙ (ap (λ (z : ℕ). text_at q (address_of blocks id).at z) (len_is p q blocks id (length bytes) s used i) ∙ written_text p (address_of blocks id).at bytes)
