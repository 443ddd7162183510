use Rattle.std.proofs.Common.{◌≡◌, ◌++◌, map}
use Rattle.eleos_core.specs.Cells.{part_of_page}
use Rattle.eleos_plot.specs.Cells.{part_of_cell}
use Rattle.eleos_machine.proofs.cells.add_pages.Given as goal

-- those added so far
abbrev pub invariant-loop-page : goal.invariant-loop-page
invariant-loop-page l = map part_of_cell l.cells.items ≡ map part_of_cell l.fn.cells.items ++ map part_of_page l.yielded
