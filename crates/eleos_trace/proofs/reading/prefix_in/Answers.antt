use Rattle.eleos_trace.proofs.Good.{trace_ok}
use Rattle.eleos_trace.proofs.reading.prefix_in.Goals as goal

pub returns-clause-good : goal.returns-clause-good
returns-clause-good c = rw c.in_ok-trace_with.ensures (trace_ok c.args.kind c.in_ok-header.header c.in_ok-lines.lines.items c.in_ok-header.ensures.kind c.in_ok-header.ensures.good c.in_ok-lines.ensures.good)
