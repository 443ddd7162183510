use Rattle.std.proofs.Common.{◌≡◌, ◌++◌, length}
use Rattle.eleos_kv.specs.Making.{AreNewCells}
use Rattle.eleos_kv.proofs.making.cells_of.Given as goal

-- the cells so far are those of the first callers
abbrev pub invariant-loop-pass : goal.invariant-loop-pass
invariant-loop-pass g l = record {
  split : l.fn.callers.items ≡ l.yielded ++ l.pass-iterator.rest.items;
  len : length l.pass-iterator.rest.items ≡ l.pass-iterator.rest.len;
  count : length l.cells.items ≡ length l.yielded;
  cells : AreNewCells l.machine 0 l.cells.items;
}
