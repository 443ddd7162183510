use Rattle.eleos_balloon.specs.Releases.{ReleasedSo}
use Rattle.eleos_balloon.proofs.releases.release_to.Given as goal

-- so many frames went
abbrev pub invariant-loop-done : goal.invariant-loop-done
invariant-loop-done g l = ReleasedSo g.P.HostPort g.P.HostStore l.fn.pass l.fn.tap l.fn.enclave l.fn.clock l._done l.pass l.tap l.clock
