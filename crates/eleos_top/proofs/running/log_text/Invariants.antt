use Rattle.std.proofs.Common.{◌≡◌, take}
use Rattle.eleos_report.specs.Log.{log_text}
use Rattle.eleos_top.proofs.running.log_text.Given as goal

-- the lines so far are printed
abbrev pub invariant-loop-line : goal.invariant-loop-line
invariant-loop-line l = l.text.items ≡ log_text (take l.line-index l.log)
