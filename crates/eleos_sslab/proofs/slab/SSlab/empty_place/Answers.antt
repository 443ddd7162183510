use Rattle.std.proofs.Common.{List, length, ap, ◌∙◌, below_more, subst, arith}
use Rattle.std.proofs.lemmas.List.{get_or_default}
use Rattle.eleos_sslab.specs.declared.block.SlabBlock.{SlabBlock}
use Rattle.eleos_sslab.specs.Blocks.{HasObject, empty_block}
use Rattle.eleos_sslab.specs.Slabs.{block_at}
use Rattle.eleos_sslab.proofs.slab.SSlab.empty_place.Goals as goal

pub loop-i-preserved : goal.loop-i-preserved
loop-i-preserved c = below_more _ _ c.loop-i.invariant (subst HasObject
    (c.index.ensures ∙ get_or_default c.self.inside.blocks.items c.loop-i.i c.index.result.now empty_block (let a = c.loop-i-test.true in let b = c.len-i-end.ensures in omega (arith, a, b)))
    (c.has_object.ensures.0 c.if-not-has_object.false))

pub returns-clause-none : goal.returns-clause-none
returns-clause-none c = λ i lt. subst (λ (z : List SlabBlock). HasObject (block_at z i)) c.self.view_is
    (c.loop-i.invariant i (let e = ap length c.self.view_is in let a = c.loop-i-test.false in let b = c.len-i-end.ensures in omega (arith, a, b, e, lt)))
