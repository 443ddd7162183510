use Rattle.eleos_run.proofs.RoundLines.{EvictsWritten}
use Rattle.eleos_run.proofs.rounds.evict_pages.Given as goal

-- so many pages left their frames, with a line for each
abbrev pub invariant-loop-done : goal.invariant-loop-done
invariant-loop-done g l = EvictsWritten g.P.HostPort g.P.HostStore l.fn.pass l.fn.tap l.fn.clock l.fn.low l.actor l.fn.lines l._done l.pass l.tap l.clock l.lines
