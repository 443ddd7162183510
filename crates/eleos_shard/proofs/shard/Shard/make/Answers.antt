use Rattle.std.proofs.Common.{◌≡◌, ℕ, List, [], length, Option, Some, None, replicate, refl, sym, ap, ◌∙◌, subst, arith}
use Rattle.std.proofs.lemmas.List.{length-replicate}
use Rattle.eleos_sslab.specs.declared.block.SlabBlock.{SlabBlock}
use Rattle.eleos_sslab.specs.declared.slab.ObjId.{ObjId}
use Rattle.eleos_sslab.specs.Blocks.{empty_block}
use Rattle.eleos_sslab.specs.Slabs.{IsHeld}
use Rattle.eleos_shard.specs.Keys.{IsKeyed, Keys, id_of}
use Rattle.eleos_shard.proofs.Asking.{none_in_empty}
use Rattle.eleos_shard.proofs.Serving.{shard_with}
use Rattle.eleos_shard.proofs.shard.Shard.make.Goals as goal

none : (key : List ℕ) (id : ObjId) → id_of [] key ≡ Some id → ⊥
none key id e = cc

-- no key, and no object
keyed : (n : ℕ) → IsKeyed [] (replicate n empty_block)
keyed n = record {
  held = λ key id e. absurd (none key id e);
  own = λ key other id e f. absurd (none key id e);
  all = λ id held. absurd (none_in_empty n id held);
}

pub returns-clause-empty : goal.returns-clause-empty
returns-clause-empty c i = shard_with (c.in_ok-slab.ensures.empty i) (c.new.ensures i)

pub returns-clause-shard : goal.returns-clause-shard
returns-clause-shard c p = record {
  slab = c.in_ok-slab.ensures.slab p;
  many = ap length c.in_ok-slab.ensures.empty ∙ length-replicate {A = SlabBlock} 1025 empty_block;
  keyed = subst (λ (z : Keys × List SlabBlock). IsKeyed z.0 z.1) (λ i. (sym c.new.ensures i, sym c.in_ok-slab.ensures.empty i)) (keyed 1025);
  few = (let e = ap length c.new.ensures in omega (arith, e));
}
