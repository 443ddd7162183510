use Rattle.eleos_run.proofs.ShareLines.{GetsWritten}
use Rattle.eleos_run.proofs.shares.gather_frames.Given as goal

-- so many frames of the pool were tried, with a line for each that went
abbrev pub invariant-loop-done : goal.invariant-loop-done
invariant-loop-done g l = GetsWritten l.fn.pass l.fn.enclave l.fn.clock l.fn.pool l.fn.to l.actor l.fn.lines l._done l.pass l.clock l.pool l.lines
