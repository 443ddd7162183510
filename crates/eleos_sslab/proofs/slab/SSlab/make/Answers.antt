use Rattle.std.proofs.Common.{List, sym, subst}
use Rattle.eleos_sslab.specs.declared.block.SlabBlock.{SlabBlock}
use Rattle.eleos_sslab.specs.Slabs.{IsSlab}
use Rattle.eleos_sslab.proofs.Lengths.{empty_slab}
use Rattle.eleos_sslab.proofs.slab.SSlab.make.Goals as goal

pub returns-clause-slab : goal.returns-clause-slab
returns-clause-slab c = λ p. subst (λ (z : List SlabBlock). IsSlab p z) (sym c.loop-place.invariant) (empty_slab p c.loop-place._place)
