use Rattle.std.proofs.Common.{◌≡◌, ◌≤◌, ◌∙◌, length, arith}
use Rattle.std.proofs.lemmas.List.{length-take-le}
use Rattle.eleos_work.proofs.JobLooks.{reads-job, calls-job}
use Rattle.eleos_work.proofs.read.read_at.Goals as goal

pub returns-then-job-clause-reads : goal.returns-then-job-clause-reads
returns-then-job-clause-reads g c =
    let job = c.copy_job-job.result in
    let few : job.length ≤ 1024 = omega arith in
    let fits : job.length ≤ length c.args.text.now = omega (arith, c.requires.room) in
    let len : length c.copy_bytes.new.buf ≡ job.length = c.copy_bytes.auto.buf ∙ length-take-le job.length c.args.text.now fits in
    reads-job g.P.RingPort c.args.glance.now c.copy_job-job.new.glance c.copy_bytes.new.self job c.args.text.now c.copy_bytes.new.buf
    c.copy_job-job.ensures.copies c.copy_bytes.ensures.copies len few

pub returns-then-job-clause-calls : goal.returns-then-job-clause-calls
returns-then-job-clause-calls g c =
    let job = c.copy_job-job.result in
    let few : job.length ≤ 1024 = omega arith in
    let fits : job.length ≤ length c.args.text.now = omega (arith, c.requires.room) in
    let len : length c.copy_bytes.new.buf ≡ job.length = c.copy_bytes.auto.buf ∙ length-take-le job.length c.args.text.now fits in
    calls-job g.P.RingPort c.args.glance.now c.copy_job-job.new.glance c.copy_bytes.new.self job c.copy_bytes.new.buf
    c.copy_job-job.ensures.copies c.copy_bytes.ensures.copies len few
