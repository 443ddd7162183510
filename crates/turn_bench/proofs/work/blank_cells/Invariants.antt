use Rattle.std.proofs.Common.{◌≡◌, length}
use Rattle.turn_bench.proofs.work.blank_cells.Given as goal

-- as many cells as rounds
abbrev pub invariant-loop-made : goal.invariant-loop-made
invariant-loop-made l = length l.cells.items ≡ l._made
