use Rattle.std.proofs.Common.{◌≡◌, ◌≤◌, ◌++◌, vec_capacity}
use Rattle.eleos_kv.specs.Ends.{AreCells, passes_in}
use Rattle.eleos_kv.proofs.ending.passes_back.Given as goal

-- the passes of the cells so far
abbrev pub invariant-loop-cell : goal.invariant-loop-cell
invariant-loop-cell g l = record {
  split : l.fn.cells.items ≡ l.yielded ++ l.cell-iterator.rest.items;
  passes : l.passes.items ≡ passes_in l.yielded;
  cells : AreCells g.P.HostPort.gave g.P.HostPort.took l.yielded;
  capacity : vec_capacity l.fn.room ≤ vec_capacity l.passes;
}
