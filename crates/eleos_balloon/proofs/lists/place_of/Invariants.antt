use Rattle.eleos_balloon.proofs.Clocks.{IsAfter}
use Rattle.eleos_balloon.proofs.lists.place_of.Given as goal

-- the frame is at no place before
abbrev pub invariant-loop-place : goal.invariant-loop-place
invariant-loop-place l = IsAfter l.fn.frame l.fn.list l.place
