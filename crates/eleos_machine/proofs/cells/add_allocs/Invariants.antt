use Rattle.std.proofs.Common.{◌≡◌, ◌++◌, map}
use Rattle.eleos_core.specs.Parts.{alloc_part}
use Rattle.eleos_plot.specs.Cells.{part_of_cell}
use Rattle.eleos_machine.proofs.cells.add_allocs.Given as goal

-- those added so far
abbrev pub invariant-loop-alloc : goal.invariant-loop-alloc
invariant-loop-alloc l = map part_of_cell l.cells.items ≡ map part_of_cell l.fn.cells.items ++ map alloc_part l.yielded
