use Rattle.eleos_base.proofs.GctrLemmas.{ciphertext_twice}
use Rattle.eleos_gcm.proofs.gcm.GcmSealer.unseal.Goals as goal

pub returns-clause-opened : goal.returns-clause-opened
returns-clause-opened c =
    rw (c.apply.ensures, ← c.self.view_is) (ciphertext_twice c.self.inside.cipher c.args.nonce.now c.args.text.now)
