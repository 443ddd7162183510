use Rattle.eleos_run.proofs.ShareLines.{GivesWritten}
use Rattle.eleos_run.proofs.shares.release_frames.Given as goal

-- so many frames went, with lines for each
abbrev pub invariant-loop-done : goal.invariant-loop-done
invariant-loop-done g l = GivesWritten g.P.HostPort g.P.HostStore l.fn.pass l.fn.tap l.fn.enclave l.fn.clock l.actor l.fn.lines l._done l.pass l.tap l.clock l.lines
