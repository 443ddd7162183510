-- What a read of an object answers.
use Rattle.std.proofs.Common.{◌≡◌, ℕ, List, [], ◌∷◌, ◌++◌, length, take, drop, sym, ap, ◌∙◌, subst, arith}
use Rattle.std.proofs.lemmas.List.{length-take-le}
use Rattle.std.proofs.Math.Seq.{take-append_seam}
use Rattle.eleos_base.specs.declared.memory.Addr.{Addr}
use Rattle.eleos_base.specs.declared.memory.Op.TheVariants as ops
use Rattle.eleos_base.specs.declared.memory.Reply.{Reply}
use Rattle.eleos_base.specs.declared.memory.Reply.TheVariants.{Text}
use Rattle.eleos_base.specs.Own.{AreTrue, AreTrueFrom, IsOwnRange, Private, Said, after_call, after_calls, nothing, text_at}
use Rattle.eleos_base.specs.SubMemory.{HasCalled, MemoryState, owned}
use Rattle.eleos_base.proofs.OwnMemory.{owned-made}
use Rattle.eleos_sslab.specs.declared.block.SlabBlock.{SlabBlock}
use Rattle.eleos_sslab.specs.declared.slab.ObjId.{ObjId}
use Rattle.eleos_sslab.specs.Slabs.{IsHeld, IsSlab, address_of, block_at, len_of, object}
use Rattle.eleos_sslab.proofs.Calling.{range_as}
use Rattle.eleos_sslab.proofs.SlotSizes.{bytes_most}

-- calls that are true in a row are so in the second part
true-back : (sub : ℕ) (p : Private) (cs ds : List Said) → AreTrueFrom sub p (cs ++ ds) → AreTrueFrom sub (after_calls sub p cs) ds
true-back sub p [] ds h = h
true-back sub p (c ∷ cs) ds h = true-back sub (after_call sub c.0 c.1 p) cs ds h.1

module _ {O : Type 0} where
  -- a true read has the bytes that lie there
  pub true_read : (m m' : MemoryState O) (at : Addr) (n : ℕ) (bytes : List ℕ) → HasCalled m (ops.Read at n) (Text bytes) m' → IsOwnRange 1024 (owned m) at n → AreTrue 1024 m'.calls → bytes ≡ text_at (owned m) at.at n
  true_read m m' at n bytes called range true = (true-back 1024 nothing m.calls ((ops.Read at n, Text bytes) ∷ []) (subst (AreTrue 1024) called.calls true)).0 range

  -- a read changes no private memory
  pub owned-read : (m m' : MemoryState O) (at : Addr) (n : ℕ) (reply : Reply) → HasCalled m (ops.Read at n) reply m' → owned m' ≡ owned m
  owned-read m m' at n reply called = owned-made m m' ((ops.Read at n, reply) ∷ []) called

  -- an object is read into the first bytes of a buffer
  module _ (m m' : MemoryState O) (blocks : List SlabBlock) (id : ObjId) (s : IsSlab (owned m) blocks) (held : IsHeld blocks id) (buf : List ℕ) (whole : length buf ≡ 512) (n : ℕ) (long : n ≡ len_of blocks id) (at : Addr) (there : at ≡ address_of blocks id) where
    count : length (take n buf) ≡ n
    count = let i = s.slots id held in let a = i.in_slot in let b = bytes_most (block_at blocks id.block).size in length-take-le n buf (omega (arith, a, b, long, whole))

    -- which lie in a private block
    pub read_range : IsOwnRange 1024 (owned m) at (length (take n buf))
    read_range = subst (λ (z : ℕ). IsOwnRange 1024 (owned m) at z) (sym (count ∙ long)) (range_as m blocks id (len_of blocks id) at s (id.slot, held) (s.slots id held) held there)

    -- where the read is true they are the object's
    pub read_object : (text : List ℕ) → length text ≡ length (take n buf) → HasCalled m (ops.Read at (length (take n buf))) (Text text) m' → AreTrue 1024 m'.calls → take n (text ++ drop n buf) ≡ object (owned m) blocks id
    read_object text same called true = ap (λ (z : ℕ). take z (text ++ drop n buf)) (sym (same ∙ count)) ∙ (take-append_seam text (drop n buf)
        ∙ (true_read m m' at (length (take n buf)) text called read_range true ∙ (ap (λ (z : ℕ). text_at (owned m) at.at z) (count ∙ long) ∙ ap (λ (z : Addr). text_at (owned m) z.at (len_of blocks id)) there)))
