use Rattle.std.proofs.Common.{◌≡◌, ◌++◌, map}
use Rattle.eleos_core.specs.Cells.{part_of_frame}
use Rattle.eleos_plot.specs.Cells.{part_of_cell}
use Rattle.eleos_machine.proofs.cells.add_frames.Given as goal

-- those added so far
abbrev pub invariant-loop-frame : goal.invariant-loop-frame
invariant-loop-frame l = (map part_of_cell l.cells.items ≡ map part_of_cell l.fn.cells.items ++ map part_of_frame l.yielded) × (l.fn.frames.items ≡ l.yielded ++ l.frame-iterator.rest.items)
