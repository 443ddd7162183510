use Rattle.std.proofs.Common.{◌≡◌, ◌*◌, ◌≤◌, take}
use Rattle.eleos_meaning.specs.Table.{lines_for}
use Rattle.eleos_run.specs.Lines.{commands_of_actor}
use Rattle.eleos_run.proofs.tasks.line_count.Given as goal

-- so many lines have the commands so far at most
abbrev pub invariant-loop-line : goal.invariant-loop-line
invariant-loop-line l = record {
  count : l.count ≡ lines_for l.frames (commands_of_actor l.actor (take l.line-index l.line-items));
  few : l.count ≤ 1025 * l.line-index;
}
