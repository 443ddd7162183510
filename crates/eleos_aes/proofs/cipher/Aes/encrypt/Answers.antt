use Rattle.std.proofs.Common.{◌≡◌, length, ap, sym, ◌∙◌, arith}
use Rattle.std.proofs.lemmas.List.{take_all}
use Rattle.eleos_base.specs.AesCipher.{aes}
use Rattle.eleos_aes.proofs.cipher.Aes.encrypt.Goals as goal

pub returns : goal.returns
returns c =
    let old = c.args.block.now in
    let new = c.encrypt_front.new.blocks in
    let long : length new ≡ 16 = omega (arith, c.encrypt_front.auto.blocks) in
    sym (take_all 16 new (omega arith)) ∙ c.encrypt_front.ensures 0 (omega arith) ∙ ap (aes c.args.self.now) (take_all 16 old (omega arith))
