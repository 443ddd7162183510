-- Which objects are there after a length was changed.
use Rattle.std.proofs.Common.{◌≡◌, ◌≢◌, ⊎_elim, ℕ, ◌<◌, ◌≤◌, List, length, replicate, get_or, sym, ap, ◌∙◌, subst, arith}
use Rattle.std.proofs.lemmas.Bool.{cases_eq, cases_lt}
use Rattle.std.proofs.lemmas.List.{get_or-replicate, get_or-set_other, get_or-set_same, get_or_past, length-replicate}
use Rattle.eleos_sslab.specs.declared.block.SlabBlock.{SlabBlock}
use Rattle.eleos_sslab.specs.declared.slab.ObjId.{ObjId}
use Rattle.eleos_sslab.specs.Blocks.{HasObject, empty_block, len_at, with_len}
use Rattle.eleos_base.specs.Own.{Private}
use Rattle.eleos_sslab.specs.Slabs.{IsSlab, block_at, len_of, with_object}

-- an item of zeros is 0
pub zeros : (n i : ℕ) → ◌≡◌ {A = ℕ} (get_or (replicate n 0) i 0) 0
zeros n i = ⊎_elim (λ (lt : i < n). get_or-replicate n i 0 0 lt) (λ (le : n ≤ i). get_or_past (replicate n 0) i 0 (omega (arith, le, length-replicate {A = ℕ} n 0))) (cases_lt i n)

pub none_in_empty : HasObject empty_block → ⊥
none_in_empty h = let e = zeros 32 h.0 in let some = h.1 in absurd (omega (arith, e, some))

-- a block with an object is one of the slab's
pub used_within : (blocks : List SlabBlock) (i : ℕ) → HasObject (block_at blocks i) → i < length blocks
used_within blocks i h = ⊎_elim (λ (lt : i < length blocks). lt)
    (λ (le : length blocks ≤ i). absurd (none_in_empty (subst HasObject (get_or_past blocks i empty_block le) h)))
    (cases_lt i (length blocks))

-- a block with no object has none in any slot
pub none_there : (block : SlabBlock) (slot : ℕ) → (HasObject block → ⊥) → len_at block slot ≡ 0
none_there block slot none = ⊎_elim (λ (lt : len_at block slot < 1). let e : len_at block slot ≡ 0 = omega arith in e) (λ (le : 1 ≤ len_at block slot). absurd (none (slot, le))) (cases_lt (len_at block slot) 1)

-- a block with no length in its 32 slots has no object
pub none_in_zeros : (block : SlabBlock) → length block.lens ≡ 32 → ((k : ℕ) → k < 32 → len_at block k ≡ 0) → HasObject block → ⊥
none_in_zeros block wide zero h = let some = h.1 in ⊎_elim
    (λ (lt : h.0 < 32). let e = zero h.0 lt in omega (arith, e, some))
    (λ (le : 32 ≤ h.0). let e = get_or_past block.lens h.0 0 (omega (arith, wide, le)) in omega (arith, e, some))
    (cases_lt h.0 32)

-- ids with the same parts are one
abbrev record_of : ℕ → ℕ → ObjId
record_of b s = record { block = b; slot = s }

pub same_id : (a b : ObjId) → a.block ≡ b.block → a.slot ≡ b.slot → a ≡ b
same_id a b e f = let x : record_of a.block a.slot ≡ record_of b.block a.slot = ap (λ (z : ℕ). record_of z a.slot) e in x ∙ ap (λ (z : ℕ). record_of b.block z) f

pub other_slot : (a b : ObjId) → a ≢ b → a.block ≡ b.block → a.slot ≢ b.slot
other_slot a b ne e f = ne (same_id a b e f)

module _ (blocks : List SlabBlock) (id : ObjId) (n : ℕ) (within : id.block < length blocks) where
  -- the block whose length is changed, and the others
  pub block_here : block_at (with_object blocks id n) id.block ≡ with_len (block_at blocks id.block) id.slot n
  block_here = get_or-set_same blocks id.block (with_len (block_at blocks id.block) id.slot n) empty_block within

  pub block_else : (i : ℕ) → i ≢ id.block → block_at (with_object blocks id n) i ≡ block_at blocks i
  block_else i ne = get_or-set_other blocks id.block i (with_len (block_at blocks id.block) id.slot n) empty_block ne

  -- what the length leaves of that block stays of every block
  pub block_part : {X : Type 0} (f : SlabBlock → X) (i : ℕ) → (i ≡ id.block → f (with_len (block_at blocks id.block) id.slot n) ≡ f (block_at blocks id.block)) → f (block_at (with_object blocks id n) i) ≡ f (block_at blocks i)
  block_part f i same = ⊎_elim
      (λ (e : i ≡ id.block). subst (λ (j : ℕ). f (block_at (with_object blocks id n) j) ≡ f (block_at blocks j)) (sym e) (ap f block_here ∙ same e))
      (λ (ne : i ≢ id.block). ap f (block_else i ne))
      (cases_eq i id.block)

  pub len_here : id.slot < length (block_at blocks id.block).lens → len_of (with_object blocks id n) id ≡ n
  len_here wide = ap (λ (b : SlabBlock). len_at b id.slot) block_here ∙ get_or-set_same (block_at blocks id.block).lens id.slot n 0 wide

  pub len_else : (o : ObjId) → o ≢ id → len_of (with_object blocks id n) o ≡ len_of blocks o
  len_else o ne = block_part (λ (b : SlabBlock). len_at b o.slot) o.block (λ e. get_or-set_other (block_at blocks id.block).lens id.slot o.slot n 0 (other_slot o id ne e))

  -- a block has an object only where it had one
  pub used_before : HasObject (block_at blocks id.block) → (i : ℕ) → HasObject (block_at (with_object blocks id n) i) → HasObject (block_at blocks i)
  used_before used i h = ⊎_elim
      (λ (e : i ≡ id.block). subst (λ (j : ℕ). HasObject (block_at blocks j)) (sym e) used)
      (λ (ne : i ≢ id.block). subst HasObject (block_else i ne) h)
      (cases_eq i id.block)

-- a slab of which nothing was stored has no object anywhere
none_at : (n i : ℕ) → block_at (replicate n empty_block) i ≡ empty_block
none_at n i = ⊎_elim (λ (lt : i < n). get_or-replicate n i empty_block empty_block lt)
    (λ (le : n ≤ i). get_or_past (replicate n empty_block) i empty_block (omega (arith, le, length-replicate n empty_block))) (cases_lt i n)

-- so it is a slab in any memory
pub empty_slab : (p : Private) (n : ℕ) → IsSlab p (replicate n empty_block)
empty_slab p n = record {
  homes = λ i used. absurd (none_in_empty (subst HasObject (none_at n i) used));
  apart = λ i j used other ne. absurd (none_in_empty (subst HasObject (none_at n i) used));
  wide = λ i. ap (λ (b : SlabBlock). length b.lens) (none_at n i) ∙ length-replicate {A = ℕ} 32 0;
  slots = λ id held. absurd (none_in_empty (subst HasObject (none_at n id.block) (id.slot, held)));
}
