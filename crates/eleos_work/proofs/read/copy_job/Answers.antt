use Rattle.eleos_work.proofs.JobLooks.{job-copied}
use Rattle.eleos_work.proofs.read.copy_job.Goals as goal

pub returns-clause-copies : goal.returns-clause-copies
returns-clause-copies g c =
    job-copied g.P.RingPort c.args.glance.now c.id-id.new.self c.call-call.new.self c.len-length.new.self _ _ c.requires
    c.id-id.ensures.copies c.call-call.ensures.copies c.len-length.ensures.copies
