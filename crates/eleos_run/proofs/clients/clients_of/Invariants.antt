use Rattle.std.proofs.Common.{◌≡◌, ◌+◌, ◌*◌, length}
use Rattle.std.specs.List.{All}
use Rattle.eleos_work.specs.Passes.{IsNewPass}
use Rattle.eleos_run.proofs.clients.clients_of.Given as goal

-- the clients so far are those of the first callers, and took two passes each
abbrev pub invariant-loop-caller : goal.invariant-loop-caller
invariant-loop-caller g l = record {
  count : length l.clients.items ≡ l.caller;
  new : All (IsNewPass l.jobs) l.passes.items;
  left : length l.initial.passes.items ≡ 2 * l.caller + length l.passes.items;
}
