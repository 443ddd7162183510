use Rattle.std.proofs.Common.{ap, sym, ◌∙◌, arith}
use Rattle.eleos_base.specs.AesCipher.{aes}
use Rattle.eleos_lanes.proofs.Fronts.{block_range}
use Rattle.eleos_aes.proofs.cipher.Aes.encrypt_four.Goals as goal

pub returns : goal.returns
returns c i low =
    block_range _ i ∙ c.encrypt_front.ensures i (omega arith) ∙ ap (aes c.args.self.now) (sym (block_range c.args.blocks.now i))
