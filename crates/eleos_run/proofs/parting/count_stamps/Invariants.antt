use Rattle.std.proofs.Common.{◌≡◌, ◌≤◌, length, take}
use Rattle.eleos_run.specs.Lines.{stamps_in}
use Rattle.eleos_run.proofs.parting.count_stamps.Given as goal

-- the lines so far have so many stamps
abbrev pub invariant-loop-line : goal.invariant-loop-line
invariant-loop-line l = record {
  count : l.count ≡ length (stamps_in (take l.line-index l.lines));
  few : l.count ≤ l.line-index;
}
