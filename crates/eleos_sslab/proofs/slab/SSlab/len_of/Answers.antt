use Rattle.std.proofs.Common.{length, sym, ap, ◌∙◌, arith}
use Rattle.std.proofs.lemmas.List.{get_or_past}
use Rattle.eleos_sslab.specs.declared.block.SlabBlock.{SlabBlock}
use Rattle.eleos_sslab.specs.Blocks.{empty_block, len_at}
use Rattle.eleos_sslab.proofs.Lengths.{zeros}
use Rattle.eleos_sslab.proofs.slab.SSlab.len_of.Goals as goal

pub returns-else-id-len : goal.returns-else-id-len
returns-else-id-len c = sym (ap (λ (b : SlabBlock). len_at b c.args.id.slot) (get_or_past c.args.self.now c.args.id.block empty_block (let e = ap length c.self.view_is in omega (arith, e))) ∙ zeros 32 c.args.id.slot)
