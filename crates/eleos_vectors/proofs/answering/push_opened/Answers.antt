use Rattle.std.proofs.Common.{◌≡◌, ◌++◌, refl, subst}
use Rattle.eleos_vectors.proofs.Opened.{opened_text-passes}
use Rattle.eleos_vectors.proofs.answering.push_opened.Goals as goal

pub returns-then-unseal-clause-text : goal.returns-then-unseal-clause-text
returns-then-unseal-clause-text c =
    subst (λ text. c.push_hex.new.out.items ≡ c.args.out.now.items ++ text)
    (opened_text-passes c.args.sealer.now c.args.nonce.now c.args.aad.now c.args.text.now c.args.tag.now c.args.text.now c.unseal.new.text c.unseal.new.text refl refl (c.unseal.ensures.passes.0 c.if-unseal.true) c.if-unseal.ensures.opened) c.push_hex.ensures.text
