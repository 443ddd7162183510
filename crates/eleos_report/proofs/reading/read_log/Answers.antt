use Rattle.std.specs.List.{slice_split}
use Rattle.eleos_texts.specs.Fields.{is_newline}
use Rattle.eleos_report.proofs.ReadLines.{lines_read}
use Rattle.eleos_report.proofs.reading.read_log.Goals as goal

pub returns-clause-good : goal.returns-clause-good
returns-clause-good c = rw c.of.ensures (lines_read c.args.kind c.args.first (slice_split is_newline c.args.bytes.now) c.in_ok-lines.lines.items c.in_ok-lines.ensures)
