use Rattle.eleos_words.proofs.Copying.{Filling}
use Rattle.eleos_words.proofs.glance.Glance.copy_bytes.Given as goal

abbrev pub invariant-loop-j : goal.invariant-loop-j
invariant-loop-j g l = Filling g.P.RingPort l.initial.self l.self l.initial.buf l.buf l.j
