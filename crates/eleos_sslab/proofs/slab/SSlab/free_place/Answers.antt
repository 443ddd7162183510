use Rattle.std.proofs.Common.{◌<◌, List, length, ◌∙◌, subst, arith}
use Rattle.std.proofs.lemmas.List.{get_or_default}
use Rattle.eleos_sslab.specs.declared.block.SlabBlock.{SlabBlock}
use Rattle.eleos_sslab.specs.Blocks.{IsOffer, empty_block}
use Rattle.eleos_sslab.specs.Slabs.{IsFirstFree}
use Rattle.eleos_sslab.proofs.slab.SSlab.free_place.Goals as goal

pub returns-in-Some-clause-found : goal.returns-in-Some-clause-found
returns-in-Some-clause-found c =
    let within : c.loop-i.i < length c.self.inside.blocks.items = let a = c.loop-i-test.true in let b = c.len-i-end.ensures in omega (arith, a, b) in
    subst (λ (z : List SlabBlock). IsFirstFree z c.args.size (record { block = c.loop-i.i; slot = c.in-Some.slot })) c.self.view_is (record {
      within = within;
      offer = subst (λ (b : SlabBlock). IsOffer b c.args.size c.in-Some.slot) (c.index.ensures ∙ get_or_default c.self.inside.blocks.items c.loop-i.i c.index.result.now empty_block within) c.in-Some.ensures.found;
      before = c.loop-i.invariant;
    })
