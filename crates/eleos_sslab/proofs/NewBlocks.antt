-- What is left of a slab where a new block takes the place of one with no object.
use Rattle.std.proofs.Common.{◌≡◌, ◌≢◌, ⊎_elim, inl, inr, ℕ, ◌+◌, ◌*◌, ◌<◌, ◌≤◌, List, ◌∷◌, length, replicate, set, refl, sym, ap, ◌∙◌, subst, arith}
use Rattle.std.proofs.lemmas.Bool.{cases_eq, cases_lt}
use Rattle.std.proofs.lemmas.List.{get_or-set_other, get_or-set_same, length-replicate, length-set, same_lists}
use Rattle.eleos_base.specs.declared.memory.Addr.{Addr}
use Rattle.eleos_base.specs.declared.memory.Reply.TheVariants.{Done, Got}
use Rattle.eleos_base.specs.Own.{AreApart, IsNew, IsOwnRange, IsOwnStart, Private, after_alloc, after_loss, after_write, block_of, text_at}
use Rattle.eleos_base.proofs.OwnMemory.{length-text_at, same_text, written_text, zeroed-else}
use Rattle.eleos_sslab.specs.declared.block.SlabBlock.{SlabBlock}
use Rattle.eleos_sslab.specs.declared.slab.ObjId.{ObjId}
use Rattle.eleos_sslab.specs.declared.size.SlotSize.{SlotSize}
use Rattle.eleos_sslab.specs.Sizes.{slot_bytes}
use Rattle.eleos_sslab.specs.Blocks.{HasObject, empty_block, first_block, len_at, slot_address}
use Rattle.eleos_sslab.specs.Slabs.{IsHeld, IsHome, IsInSlot, IsSlab, KeepsOthers, address_of, block_at, len_of, object}
use Rattle.eleos_sslab.specs.Calls.{KeepsObjects}
use Rattle.eleos_sslab.proofs.Lengths.{none_there, other_slot, zeros}
use Rattle.eleos_sslab.proofs.Ranges.{among-without, text_apart, texts_same}
use Rattle.eleos_sslab.proofs.SlotSizes.{bytes_most, slot_end}

abbrev addr_of : ℕ → ℕ → Addr
addr_of enclave start = record { enclave = enclave; at = start }

-- texts of no byte are one
no_texts : (p q : Private) (a b n : ℕ) → n < 1 → text_at p a n ≡ text_at q b n
no_texts p q a b n none = same_lists (text_at p a n) (text_at q b n) (length-text_at p a n ∙ sym (length-text_at q b n)) (λ k d below. absurd (omega (arith, below, length-text_at p a n, none)))

-- a new block takes any object in its first bytes
pub new_range : (p : Private) (at : Addr) (n : ℕ) → IsNew 1024 p (block_of 1024 at 1024) → 1 ≤ n → n ≤ 512 → IsOwnRange 1024 (after_alloc 1024 1024 (Got at) p) at n
new_range p at n new some most = let w = new.whole in record { block = block_of 1024 at 1024; among = inl refl; home = refl; some = some; from = omega arith; within = omega (arith, most); in_sub = omega (arith, w, most) }

pub new_start : (p : Private) (at : Addr) → IsOwnStart (after_alloc 1024 1024 (Got at) p) at
new_start p at = record { block = block_of 1024 at 1024; among = inl refl; home = refl; starts = refl }

module _ (p : Private) (blocks : List SlabBlock) (at : Addr) (s : IsSlab p blocks) (new : IsNew 1024 p (block_of 1024 at 1024)) where
  -- the new block is apart from each one with an object
  apart_from : (j : ℕ) → HasObject (block_at blocks j) → AreApart at.at 1024 (block_at blocks j).at.at 1024
  apart_from j used = new.apart (block_of 1024 (block_at blocks j).at 1024) (s.homes j used).among

  far : (j : ℕ) → HasObject (block_at blocks j) → at.at ≢ (block_at blocks j).at.at
  far j used e = ⊎_elim (λ (x : at.at + 1024 ≤ (block_at blocks j).at.at). absurd (omega (arith, x, e))) (λ (x : (block_at blocks j).at.at + 1024 ≤ at.at). absurd (omega (arith, x, e))) (apart_from j used)

  -- so is it from each object
  object_apart : (o : ObjId) → IsHeld blocks o → AreApart at.at 1024 (address_of blocks o).at (len_of blocks o)
  object_apart o held = let k = s.slots o held in let e = slot_end (block_at blocks o.block).size o.slot (len_of blocks o) k.in_block k.in_slot in ⊎_elim
      (λ (x : at.at + 1024 ≤ (block_at blocks o.block).at.at). inl (omega (arith, x)))
      (λ (x : (block_at blocks o.block).at.at + 1024 ≤ at.at). inr (omega (arith, x, e)))
      (apart_from o.block (o.slot, held))

  -- its zeros leave each object as it was
  zeros_keep : (o : ObjId) → IsHeld blocks o → text_at (after_alloc 1024 1024 (Got at) p) (address_of blocks o).at (len_of blocks o) ≡ text_at p (address_of blocks o).at (len_of blocks o)
  zeros_keep o held = same_text (after_alloc 1024 1024 (Got at) p) p (address_of blocks o).at (len_of blocks o) (λ a from below. zeroed-else at.at 1024 a p.byte
      (⊎_elim (λ (x : at.at + 1024 ≤ (address_of blocks o).at). inr (omega (arith, x, from))) (λ (x : (address_of blocks o).at + len_of blocks o ≤ at.at). inl (omega (arith, x, below))) (object_apart o held)))

  -- where it is freed again, all is as it was
  pub slab_freed : IsSlab (after_loss at Done (after_alloc 1024 1024 (Got at) p)) blocks
  slab_freed = record {
    homes = λ j h. let home = s.homes j h in record {
      among = among-without at.at (block_of 1024 (block_at blocks j).at 1024) (block_of 1024 at 1024 ∷ p.blocks) (λ e. far j h (sym e)) (inr home.among);
      whole = home.whole;
      fits = home.fits;
    };
    apart = s.apart;
    wide = s.wide;
    slots = s.slots;
  }

  pub kept_freed : KeepsObjects p blocks (after_loss at Done (after_alloc 1024 1024 (Got at) p))
  kept_freed o = texts_same (after_loss at Done (after_alloc 1024 1024 (Got at) p)) p (address_of blocks o).at (len_of blocks o)
      (λ held. same_text (after_loss at Done (after_alloc 1024 1024 (Got at) p)) (after_alloc 1024 1024 (Got at) p) (address_of blocks o).at (len_of blocks o) (λ a from below. refl) ∙ zeros_keep o held)

  module _ (place : ℕ) (size : SlotSize) (bytes : List ℕ) (within : place < length blocks) (empty : HasObject (block_at blocks place) → ⊥) (i : IsInSlot size 0 (length bytes)) where
    abbrev first : SlabBlock
    first = first_block at size (length bytes)

    abbrev after : List SlabBlock
    after = set blocks place (first_block at size (length bytes))

    abbrev memory : Private
    memory = after_write at bytes Done (after_alloc 1024 1024 (Got at) p)

    abbrev id : ObjId
    id = record { block = place; slot = 0 }

    new_here : block_at after place ≡ first
    new_here = get_or-set_same blocks place first empty_block within

    new_else : (j : ℕ) → j ≢ place → block_at after j ≡ block_at blocks j
    new_else j ne = get_or-set_other blocks place j first empty_block ne

    first_is : len_at first 0 ≡ length bytes
    first_is = get_or-set_same (replicate 32 0) 0 (length bytes) 0 (omega (arith, length-replicate {A = ℕ} 32 0))

    first_else : (slot : ℕ) → slot ≢ 0 → len_at first slot ≡ 0
    first_else slot ne = get_or-set_other (replicate 32 0) 0 slot (length bytes) 0 ne ∙ zeros 32 slot

    else_none : (o : ObjId) → o.block ≡ place → o.slot ≢ 0 → len_of after o ≡ 0
    else_none o e ne = ap (λ (k : ℕ). len_at (block_at after k) o.slot) e ∙ (ap (λ (b : SlabBlock). len_at b o.slot) new_here ∙ first_else o.slot ne)

    was_none : (o : ObjId) → o.block ≡ place → len_of blocks o ≡ 0
    was_none o e = none_there (block_at blocks o.block) o.slot (λ h. empty (subst (λ (k : ℕ). HasObject (block_at blocks k)) e h))

    used_else : (j : ℕ) → j ≢ place → HasObject (block_at after j) → HasObject (block_at blocks j)
    used_else j ne h = subst HasObject (new_else j ne) h

    start_here : (j : ℕ) → j ≡ place → (block_at after j).at.at ≡ at.at
    start_here j e = ap (λ (k : ℕ). (block_at after k).at.at) e ∙ ap (λ (b : SlabBlock). b.at.at) new_here

    start_else : (j : ℕ) → j ≢ place → (block_at after j).at.at ≡ (block_at blocks j).at.at
    start_else j ne = ap (λ (b : SlabBlock). b.at.at) (new_else j ne)

    home_here : IsHome memory at
    home_here = let f = new.fits in record { among = inl refl; whole = new.whole; fits = omega (arith, f) }

    home_of : (j : ℕ) → HasObject (block_at after j) → IsHome memory (block_at after j).at
    home_of j h = ⊎_elim
        (λ (e : j ≡ place). subst (λ (k : ℕ). IsHome memory (block_at after k).at) (sym e) (subst (λ (b : SlabBlock). IsHome memory b.at) (sym new_here) home_here))
        (λ (ne : j ≢ place). subst (λ (b : SlabBlock). IsHome memory b.at) (sym (new_else j ne)) (let home = s.homes j (used_else j ne h) in record { among = inr home.among; whole = home.whole; fits = home.fits }))
        (cases_eq j place)

    apart_of : (j k : ℕ) → HasObject (block_at after j) → HasObject (block_at after k) → j ≢ k → (block_at after j).at.at ≢ (block_at after k).at.at
    apart_of j k h g ne e = ⊎_elim
        (λ (x : j ≡ place). ⊎_elim
        (λ (y : k ≡ place). ne (x ∙ sym y))
        (λ (y : k ≢ place). far k (used_else k y g) (sym (start_here j x) ∙ (e ∙ start_else k y)))
        (cases_eq k place))
        (λ (x : j ≢ place). ⊎_elim
        (λ (y : k ≡ place). far j (used_else j x h) (sym (start_here k y) ∙ (sym e ∙ start_else j x)))
        (λ (y : k ≢ place). s.apart j k (used_else j x h) (used_else k y g) ne (sym (start_else j x) ∙ (e ∙ start_else k y)))
        (cases_eq k place))
        (cases_eq j place)

    slot_of : (o : ObjId) → IsHeld after o → IsInSlot (block_at after o.block).size o.slot (len_of after o)
    slot_of o held = ⊎_elim
        (λ (e : o.block ≡ place). ⊎_elim
        (λ (f : o.slot ≡ 0). subst (λ (k : ℕ). IsInSlot (block_at after k).size o.slot (len_at (block_at after k) o.slot)) (sym e) (subst (λ (b : SlabBlock). IsInSlot b.size o.slot (len_at b o.slot)) (sym new_here)
        (subst (λ (t : ℕ). IsInSlot size t (len_at first t)) (sym f) (subst (λ (z : ℕ). IsInSlot size 0 z) (sym first_is) i))))
        (λ (d : o.slot ≢ 0). absurd (omega (arith, else_none o e d, held)))
        (cases_eq o.slot 0))
        (λ (ne : o.block ≢ place). subst (λ (b : SlabBlock). IsInSlot b.size o.slot (len_at b o.slot)) (sym (new_else o.block ne)) (s.slots o (subst (λ (b : SlabBlock). 1 ≤ len_at b o.slot) (new_else o.block ne) held)))
        (cases_eq o.block place)

    -- it is a slab still
    pub slab_new : IsSlab memory after
    slab_new = record {
      homes = home_of;
      apart = apart_of;
      wide = λ j. ⊎_elim
          (λ (e : j ≡ place). ap (λ (k : ℕ). length (block_at after k).lens) e ∙ (ap (λ (b : SlabBlock). length b.lens) new_here ∙ (length-set (replicate 32 0) 0 (length bytes) ∙ length-replicate {A = ℕ} 32 0)))
          (λ (ne : j ≢ place). ap (λ (b : SlabBlock). length b.lens) (new_else j ne) ∙ s.wide j)
          (cases_eq j place);
      slots = slot_of;
    }

    lens_of : (o : ObjId) → o ≢ id → len_of after o ≡ len_of blocks o
    lens_of o ne = ⊎_elim
        (λ (e : o.block ≡ place). else_none o e (other_slot o id ne e) ∙ sym (was_none o e))
        (λ (d : o.block ≢ place). ap (λ (b : SlabBlock). len_at b o.slot) (new_else o.block d))
        (cases_eq o.block place)

    place_of : (o : ObjId) → IsHeld blocks o → address_of after o ≡ address_of blocks o
    place_of o held = ap (λ (b : SlabBlock). slot_address b o.slot) (new_else o.block (λ e. empty (subst (λ (k : ℕ). HasObject (block_at blocks k)) e (o.slot, held))))

    text_of : (o : ObjId) → IsHeld blocks o → text_at memory (address_of blocks o).at (len_of blocks o) ≡ text_at p (address_of blocks o).at (len_of blocks o)
    text_of o held = let most = bytes_most size in let in_slot = i.in_slot in
        text_apart (after_alloc 1024 1024 (Got at) p) at.at bytes (address_of blocks o).at (len_of blocks o)
        (⊎_elim (λ (x : at.at + 1024 ≤ (address_of blocks o).at). inl (omega (arith, x, most, in_slot))) (λ (x : (address_of blocks o).at + len_of blocks o ≤ at.at). inr x) (object_apart o held))
        ∙ zeros_keep o held

    -- no other object is changed
    pub keeps_new : KeepsOthers p blocks id memory after
    keeps_new = record {
      many = length-set blocks place first;
      lens = lens_of;
      places = λ o ne held. place_of o held;
      objects = λ o ne. ap (λ (z : ℕ). text_at memory (address_of after o).at z) (lens_of o ne) ∙ ⊎_elim
          (λ (none : len_of blocks o < 1). no_texts memory p (address_of after o).at (address_of blocks o).at (len_of blocks o) none)
          (λ (held : 1 ≤ len_of blocks o). ap (λ (z : Addr). text_at memory z.at (len_of blocks o)) (place_of o held) ∙ text_of o held)
          (cases_lt (len_of blocks o) 1);
    }

    -- the new object lies at the start of the new block
    pub place_new : address_of after id ≡ at
    place_new = ap (λ (b : SlabBlock). slot_address b 0) new_here ∙ ap (λ (z : ℕ). addr_of at.enclave z) (let e : at.at + slot_bytes size * 0 ≡ at.at = omega arith in e)

    pub len_new : len_of after id ≡ length bytes
    len_new = ap (λ (b : SlabBlock). len_at b 0) new_here ∙ first_is

    pub text_new : object memory after id ≡ bytes
    text_new = ap (λ (z : Addr). text_at memory z.at (len_of after id)) place_new ∙ (ap (λ (z : ℕ). text_at memory at.at z) len_new ∙ written_text (after_alloc 1024 1024 (Got at) p) at.at bytes)

    pub was_free : len_of blocks id ≡ 0
    was_free = was_none id refl
