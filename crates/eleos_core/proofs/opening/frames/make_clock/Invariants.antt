use Rattle.std.proofs.Common.{◌≡◌}
use Rattle.std.specs.List.{range_with_len}
use Rattle.eleos_core.proofs.opening.frames.make_clock.Given as goal

-- so many frames so far
abbrev pub invariant-loop-i : goal.invariant-loop-i
invariant-loop-i l = l.frames.items ≡ range_with_len l.first l.i
