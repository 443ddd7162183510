use Rattle.std.proofs.Common.{◌-◌}
use Rattle.eleos_gcm.proofs.Counters.{IsUnderWay}
use Rattle.eleos_gcm.proofs.counter.gctr.Given as goal

abbrev pub invariant-loop-at : goal.invariant-loop-at
invariant-loop-at l = IsUnderWay l.cipher l.first l.fn.text l.counter l.text l.at

abbrev pub decreases-loop-at : goal.decreases-loop-at
decreases-loop-at l = l.len - l.at
