use Rattle.eleos_swap.specs.Evicts.{GoesOn}
use Rattle.eleos_swap.proofs.evicts.evict_until.Given as goal

-- so many pages were evicted
abbrev pub invariant-loop-done : goal.invariant-loop-done
invariant-loop-done g l = GoesOn g.P.HostPort g.P.HostStore l.fn.pass l.fn.tap l.fn.clock l.fn.low l._done l.pass l.tap l.clock
