use Rattle.eleos_report.proofs.PrintedLines.{log_again}
use Rattle.eleos_report.proofs.laws.reads_what_is_printed.Goals as goal

pub returns : goal.returns
returns c = log_again
