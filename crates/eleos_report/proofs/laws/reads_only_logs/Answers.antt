use Rattle.eleos_report.proofs.SpelledLines.{only_logs}
use Rattle.eleos_report.proofs.laws.reads_only_logs.Goals as goal

pub returns : goal.returns
returns c = only_logs
