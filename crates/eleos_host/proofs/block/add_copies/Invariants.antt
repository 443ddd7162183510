use Rattle.std.proofs.Common.{◌≡◌, ◌≤◌, ◌+◌, ◌-◌, ◌++◌, length, replicate}
use Rattle.std.specs.Prelude.{vec_capacity}
use Rattle.eleos_host.proofs.block.add_copies.Given as goal

-- so many copies stand behind what was there, and there is room for the others
abbrev pub invariant-loop-done : goal.invariant-loop-done
invariant-loop-done g l = record {
  items : l.all.items ≡ l.fn.all.items ++ replicate l._done l.item;
  room : length l.all.items + (l.count - l._done) ≤ vec_capacity l.all;
}
