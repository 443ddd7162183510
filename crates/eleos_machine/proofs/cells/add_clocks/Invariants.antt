use Rattle.std.proofs.Common.{◌≡◌, ◌++◌, map}
use Rattle.eleos_core.specs.Parts.{clock_part}
use Rattle.eleos_plot.specs.Cells.{part_of_cell}
use Rattle.eleos_machine.proofs.cells.add_clocks.Given as goal

-- those added so far
abbrev pub invariant-loop-clock : goal.invariant-loop-clock
invariant-loop-clock l = map part_of_cell l.cells.items ≡ map part_of_cell l.fn.cells.items ++ map clock_part l.yielded
