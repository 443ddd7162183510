-- How many of the calls left a call on a slab costs.
use Rattle.std.proofs.Common.{◌≡◌, ⊎_elim, ℕ, ◌+◌, ◌≤◌, List, [], ◌∷◌, length, Result, Ok, Err, ap, ◌∙◌, arith}
use Rattle.eleos_base.specs.declared.memory.Addr.{Addr}
use Rattle.eleos_base.specs.declared.memory.Reply.TheVariants.{Done}
use Rattle.eleos_base.specs.Answers.{access_refusal_reply}
use Rattle.eleos_base.specs.Own.{Said}
use Rattle.eleos_base.specs.SubMemory.{HasMade, MemoryState}
use Rattle.eleos_sslab.specs.declared.block.SlabBlock.{SlabBlock}
use Rattle.eleos_sslab.specs.declared.slab.ObjId.{ObjId}
use Rattle.eleos_sslab.specs.declared.slab.SlabRefused.{SlabRefused}
use Rattle.eleos_sslab.specs.declared.slab.SlabRefused.TheVariants.{BadSize, Full, NoSpace, Access}
use Rattle.eleos_sslab.specs.Blocks.{HasObject}
use Rattle.eleos_sslab.specs.Slabs.{address_of, block_at}
use Rattle.eleos_sslab.specs.Calls.{Costs, FreesEmpty, Moves, PutCalls, WritesFree, WritesHere, WritesNew, free_of}

module _ {O : Type 0} (m m' : MemoryState O) where
  -- calls that were made cost one each
  spent : (made : List Said) (n : ℕ) → length made ≤ n → HasMade m made m' → Costs m n m'
  spent made n few h = record { origin = h.origin; left = (let a = h.left in omega (arith, a, few)) }

  -- nothing was made
  none : (n : ℕ) → m' ≡ m → Costs m n m'
  none n same = record { origin = ap (λ (z : MemoryState O). z.origin) same; left = (let a = ap (λ (z : MemoryState O). z.left) same in omega (arith, a)) }

  -- an object that was stored cost two at most
  pub stored_spent : (blocks blocks' : List SlabBlock) (bytes : List ℕ) (id : ObjId) → PutCalls m blocks bytes (Ok id) m' blocks' → Costs m 2 m'
  stored_spent blocks blocks' bytes id h = ⊎_elim
      (λ (free : WritesFree m blocks h.0 bytes id Done m' × (address_of blocks' id ≡ address_of blocks id)). spent _ 2 (omega arith) free.0.made)
      (λ (new : WritesNew m blocks h.0 bytes (address_of blocks' id) Done [] m'). spent _ 2 (omega arith) new.made) h.2

  -- and one that was not three
  pub put_spent : (blocks blocks' : List SlabBlock) (bytes : List ℕ) (r : Result ObjId SlabRefused) → PutCalls m blocks bytes r m' blocks' → Costs m 3 m'
  put_spent blocks blocks' bytes (Ok id) h = let few = stored_spent blocks blocks' bytes id h in record { origin = few.origin; left = (let a = few.left in omega (arith, a)) }
  put_spent blocks blocks' bytes (Err BadSize) h = none 3 h
  put_spent blocks blocks' bytes (Err Full) h = none 3 h
  put_spent blocks blocks' bytes (Err NoSpace) h = spent _ 3 (omega arith) h
  put_spent blocks blocks' bytes (Err (Access why)) h = ⊎_elim
      (λ (free : (id : ObjId) × WritesFree m blocks h.0 bytes id (access_refusal_reply why) m'). spent _ 3 (omega arith) free.1.made)
      (λ (new : (at : Addr) × WritesNew m blocks h.0 bytes at (access_refusal_reply why) (free_of at ∷ []) m'). spent _ 3 (omega arith) new.1.made) h.3

  -- one that was given up cost one
  pub take_spent : (blocks : List SlabBlock) (place : ℕ) → FreesEmpty m blocks place m' → Costs m 1 m'
  take_spent blocks place h = ⊎_elim
      (λ (kept : HasObject (block_at blocks place) × (m' ≡ m)). none 1 kept.1)
      (λ (freed : (HasObject (block_at blocks place) → ⊥) × HasMade m (free_of (block_at blocks place).at ∷ []) m'). spent _ 1 (omega arith) freed.1) h

  -- and one that was written where it lies
  pub here_spent : (blocks blocks' : List SlabBlock) (bytes : List ℕ) (id : ObjId) (r : Result ObjId SlabRefused) → WritesHere m blocks bytes id r m' blocks' → Costs m 3 m'
  here_spent blocks blocks' bytes id (Ok new) h = spent _ 3 (omega arith) h.2
  here_spent blocks blocks' bytes id (Err (Access why)) h = spent _ 3 (omega arith) h.1
  here_spent blocks blocks' bytes id (Err BadSize) h = absurd h
  here_spent blocks blocks' bytes id (Err Full) h = absurd h
  here_spent blocks blocks' bytes id (Err NoSpace) h = absurd h

-- one that went to another slot cost three at most
pub moves_spent : {O : Type 0} (m m' : MemoryState O) (blocks blocks' : List SlabBlock) (bytes : List ℕ) (id : ObjId) (r : Result ObjId SlabRefused) → Moves m blocks bytes id r m' blocks' → Costs m 3 m'
moves_spent m m' blocks blocks' bytes id (Ok new) h = let stored = stored_spent m h.0 blocks h.1 bytes new h.2 in let taken = take_spent h.0 m' blocks' id.block h.4 in record { origin = taken.origin ∙ stored.origin; left = (let a = stored.left in let b = taken.left in omega (arith, a, b)) }
moves_spent m m' blocks blocks' bytes id (Err why) h = put_spent m m' blocks blocks' bytes (Err why) h
