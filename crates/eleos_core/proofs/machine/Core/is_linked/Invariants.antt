use Rattle.std.proofs.Common.{◌≡◌, ℕ, ◌+◌, ◌<◌}
use Rattle.eleos_core.specs.Cells.{links_in}
use Rattle.eleos_core.proofs.machine.Core.is_linked.Given as goal

-- no caller so far has a link
abbrev pub invariant-loop-caller : goal.invariant-loop-caller
invariant-loop-caller l = (who : ℕ) → who < l.caller → links_in l.self (who + 1) l.page ≡ 0
