use Rattle.eleos_base.specs.Gcm.{ciphertext_of}
use Rattle.eleos_gcm.proofs.gcm.apply.Goals as goal

pub returns : goal.returns
unfolding ciphertext_of
returns c = rw (c.gctr.ensures, c.inc32.ensures, c.pre_counter-counter.ensures)
