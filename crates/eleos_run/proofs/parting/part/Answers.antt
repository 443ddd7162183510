use Rattle.std.proofs.Common.{length, ap, arith}
use Rattle.eleos_run.proofs.CallerLists.{lines_fit}
use Rattle.eleos_run.proofs.parting.part.Goals as goal

pub unreachable-requires-in_default-append : goal.unreachable-requires-in_default-append
unreachable-requires-in_default-append g c = let inv = c.loop-job.invariant in
    let fit = lines_fit c.args.jobs.items c.loop-job.yielded c.loop-job.job-iterator.rest.items c.next.new.self.rest.items c.in-Some.job inv.split c.in-Some.ensures.steps.0 in
    let full = c.in_default-append.ensures.full in let made = ap length inv.lines in let room = inv.log_capacity in let enough = c.requires.log_room in omega (arith, fit, full, made, room, enough)
