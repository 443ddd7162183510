use Rattle.eleos_balloon.specs.Gathers.{GatheredSo}
use Rattle.eleos_balloon.proofs.gathers.gather_to.Given as goal

-- so many frames of the pool were tried
abbrev pub invariant-loop-done : goal.invariant-loop-done
invariant-loop-done g l = GatheredSo l.fn.pass l.fn.enclave l.fn.clock l.fn.pool l.fn.to l._done l.pass l.clock l.pool
