use Rattle.std.proofs.Common.{◌≡◌, length}
use Rattle.std.specs.List.{All}
use Rattle.eleos_work.specs.Passes.{IsNewPass}
use Rattle.eleos_work.proofs.jobs.Jobs.passes.Given as goal

abbrev pub invariant-loop-done : goal.invariant-loop-done
invariant-loop-done l = All (IsNewPass l.self) l.passes.items × (length l.passes.items ≡ l._done)
