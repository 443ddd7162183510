use Rattle.std.proofs.Common.{◌≡◌, map, take}
use Rattle.eleos_run.specs.Lines.{commands_of_actor}
use Rattle.eleos_meaning.specs.NameTable.{names_in}
use Rattle.eleos_run.specs.Tasks.{AllReady}
use Rattle.eleos_run.proofs.tasks.tasks_of.Given as goal

-- the tasks so far are those of the lines so far
abbrev pub invariant-loop-line : goal.invariant-loop-line
invariant-loop-line l = record {
  commands : map (λ task. task.command) l.tasks.items ≡ commands_of_actor l.actor (take l.line-index l.line-items);
  ready : AllReady l.trace.plan l.actor l.names l.tasks.items;
  names : names_in l.names ≡ names_in l.initial.names;
}
