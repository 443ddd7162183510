-- Objects lie in private ranges that are apart.
use Rattle.std.proofs.Common.{◌≡◌, ◌≢◌, ⊎_elim, inl, inr, ℕ, ◌+◌, ◌*◌, ◌^◌, ◌<◌, ◌≤◌, List, [], ◌∷◌, ◌++◌, length, not, eqb, Bool, true, false, cond, refl, sym, ap, ◌∙◌, subst, arith, ne_eqb, append_assoc, length-append}
use Rattle.std.proofs.lemmas.Bool.{cases_eq, cases_lt}
use Rattle.eleos_base.specs.declared.memory.Addr.{Addr}
use Rattle.eleos_base.specs.declared.refusals.AccessRefused.{AccessRefused}
use Rattle.eleos_base.specs.declared.refusals.AccessRefused.TheVariants as accesses
use Rattle.eleos_base.specs.Answers.{access_refusal_reply}
use Rattle.eleos_base.specs.Own.{AreApart, IsAmong, IsOwnRange, OwnBlock, Private, Said, after_write, block_of, text_at, without, written}
use Rattle.eleos_base.specs.SubMemory.{HasMade, MemoryState}
use Rattle.eleos_base.proofs.OwnMemory.{same_text, written-else}
use Rattle.eleos_sslab.specs.declared.block.SlabBlock.{SlabBlock}
use Rattle.eleos_sslab.specs.declared.slab.ObjId.{ObjId}
use Rattle.eleos_sslab.specs.Sizes.{slot_bytes, slot_count}
use Rattle.eleos_sslab.specs.Blocks.{HasObject, len_at, slot_address}
use Rattle.eleos_sslab.specs.Slabs.{IsHeld, IsHome, IsInSlot, IsSlab, address_of, block_at, len_of}
use Rattle.eleos_sslab.proofs.Lengths.{other_slot}
use Rattle.eleos_sslab.proofs.SlotSizes.{blocks_apart, in_one_sub, slot_end, slot_start, slots_apart}

-- calls in a row
pub made-append : {O : Type 0} (m m' m'' : MemoryState O) (cs ds : List Said) → HasMade m cs m' → HasMade m' ds m'' → HasMade m (cs ++ ds) m''
made-append m m' m'' cs ds a b = record {
  origin = b.origin ∙ a.origin;
  calls = b.calls ∙ (ap (λ (z : List Said). z ++ ds) a.calls ∙ append_assoc m.calls cs ds);
  left = let x = a.left in let y = b.left in omega (arith, x, y, length-append cs ds);
}

-- a refused write changes nothing
pub not_written : (at : Addr) (bytes : List ℕ) (why : AccessRefused) (p : Private) → after_write at bytes (access_refusal_reply why) p ≡ p
not_written at bytes accesses.BadRange p = refl
not_written at bytes accesses.Unallocated p = refl
not_written at bytes (accesses.NotYours owner) p = refl
not_written at bytes (accesses.Worn s) p = refl
not_written at bytes (accesses.Tampered s) p = refl

-- bytes that are written elsewhere leave a text as it was
pub text_apart : (p : Private) (at : ℕ) (bytes : List ℕ) (to n : ℕ) → AreApart at (length bytes) to n → text_at (record p { byte = written at bytes p.byte }) to n ≡ text_at p to n
text_apart p at bytes to n off = same_text (record p { byte = written at bytes p.byte }) p to n (λ a from below. written-else at a bytes p.byte
    (⊎_elim (λ (q : at + length bytes ≤ to). inr (omega (arith, q, from))) (λ (q : to + n ≤ at). inl (omega (arith, q, below))) off))

-- texts are one where they are so if they have a byte
pub texts_same : (p q : Private) (a n : ℕ) → (1 ≤ n → text_at p a n ≡ text_at q a n) → text_at p a n ≡ text_at q a n
texts_same p q a n same = ⊎_elim (λ (lt : n < 1). same_text p q a n (λ x from below. absurd (omega (arith, lt, from, below)))) (λ (le : 1 ≤ n). same le) (cases_lt n 1)

-- an object within its slot lies in one sub-page of its private block
pub own_range : (p : Private) (block : SlabBlock) (slot n : ℕ) → IsHome p block.at → IsInSlot block.size slot n → 1 ≤ n → IsOwnRange 1024 p (slot_address block slot) n
own_range p block slot n h i some = let e = slot_end block.size slot n i.in_block i.in_slot in let w = h.whole in record {
  block = block_of 1024 block.at 1024;
  among = h.among;
  home = refl;
  some = some;
  from = omega arith;
  within = omega (arith, e);
  in_sub = in_one_sub block.at.at (slot_bytes block.size * slot) n w e some;
}

-- its address is a u32
pub address_fits : (p : Private) (block : SlabBlock) (slot : ℕ) → IsHome p block.at → slot < slot_count block.size → block.at.at + slot_bytes block.size * slot < 2 ^ 32
address_fits p block slot h in_block = let e = slot_start block.size slot in_block in let f = h.fits in omega (arith, e, f)

-- a slot is apart from each object in another one
pub objects_apart : (p : Private) (blocks : List SlabBlock) (id : ObjId) (n : ℕ) → IsSlab p blocks → HasObject (block_at blocks id.block) → IsInSlot (block_at blocks id.block).size id.slot n
    → (o : ObjId) → o ≢ id → IsHeld blocks o → AreApart (address_of blocks id).at n (address_of blocks o).at (len_of blocks o)
objects_apart p blocks id n s used i o ne held = let k = s.slots o held in ⊎_elim
    (λ (e : o.block ≡ id.block). subst (λ (j : ℕ). len_at (block_at blocks j) o.slot ≤ slot_bytes (block_at blocks j).size → AreApart (address_of blocks id).at n (slot_address (block_at blocks j) o.slot).at (len_at (block_at blocks j) o.slot)) (sym e)
    (λ m. slots_apart (block_at blocks id.block).at.at (slot_bytes (block_at blocks id.block).size) id.slot o.slot n (len_at (block_at blocks id.block) o.slot) (λ f. other_slot o id ne e (sym f)) i.in_slot m) k.in_slot)
    (λ (d : o.block ≢ id.block). blocks_apart (block_at blocks id.block).at.at (block_at blocks o.block).at.at (slot_bytes (block_at blocks id.block).size * id.slot) (slot_bytes (block_at blocks o.block).size * o.slot) n (len_of blocks o)
    (s.homes id.block used).whole (s.homes o.block (o.slot, held)).whole (s.apart id.block o.block used (o.slot, held) (λ f. d (sym f)))
    (slot_end (block_at blocks id.block).size id.slot n i.in_block i.in_slot) (slot_end (block_at blocks o.block).size o.slot (len_of blocks o) k.in_block k.in_slot))
    (cases_eq o.block id.block)

-- a block that starts elsewhere is not lost
stays : (start : ℕ) (block b : OwnBlock) (blocks : List OwnBlock) (t : Bool) → IsAmong block (without start blocks) → IsAmong block (cond t (b ∷ without start blocks) (without start blocks))
stays start block b blocks true i = inr i
stays start block b blocks false i = i

pub among-without : (start : ℕ) (block : OwnBlock) (blocks : List OwnBlock) → block.start ≢ start → IsAmong block blocks → IsAmong block (without start blocks)
among-without start block [] ne h = h
among-without start block (b ∷ blocks) ne (inl e) = subst (λ (t : Bool). IsAmong block (cond t (b ∷ without start blocks) (without start blocks)))
    (sym (ap not (ne_eqb _ _ (λ (q : b.start ≡ start). ne (ap (λ (x : OwnBlock). x.start) e ∙ q))))) (inl e)
among-without start block (b ∷ blocks) ne (inr i) = stays start block b blocks (not (eqb b.start start)) (among-without start block blocks ne i)
