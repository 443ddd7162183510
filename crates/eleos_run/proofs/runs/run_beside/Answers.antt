use Rattle.std.proofs.Common.{ap, arith}
use Rattle.eleos_run.proofs.CallerLists.{all_done, new_at}
use Rattle.eleos_run.proofs.LineCounts.{room_enough, room_few, room_of}
use Rattle.eleos_run.proofs.PlanRooms.{frames_few}
use Rattle.eleos_run.proofs.runs.run_beside.Goals as goal

pub perform_beside-jobs-requires-clause-ready : goal.perform_beside-jobs-requires-clause-ready
perform_beside-jobs-requires-clause-ready g c _ _ = new_at c.args.trace.now c.args.machine 0 c.in_ok-jobs.jobs.items c.in_ok-jobs.ensures.jobs

pub finish-requires-clause-done : goal.finish-requires-clause-done
finish-requires-clause-done g c = all_done g.H.Port.HostPort.gave g.H.Port.HostPort.took g.C.Client.shown g.C.Client.written c.args.trace.now c.args.machine 0 c.in_ok-jobs.jobs.items c.perform_beside-jobs.result.items
    c.requires.plan c.in_ok-jobs.ensures.jobs c.perform_beside-jobs.ensures.count c.perform_beside-jobs.ensures.each

pub line_room-requires : goal.line_room-requires
line_room-requires g c = let few = room_few c.args.trace.now c.args.machine 0 c.in_ok-jobs.jobs.items (frames_few c.args.trace.now c.requires.run) c.requires.run.lines.few c.in_ok-jobs.ensures.jobs in
    let many = c.in_ok-jobs.ensures.count in let callers = c.requires.run.good.callers in let same = ap (room_of {P = g.row.H-Port.Denot} {C = g.row.C.Denot}) c.deref.ensures.value in omega (arith, few, many, callers, same)

pub overflow_add-line_room : goal.overflow_add-line_room
overflow_add-line_room g c = let few = room_few c.args.trace.now c.args.machine 0 c.in_ok-jobs.jobs.items (frames_few c.args.trace.now c.requires.run) c.requires.run.lines.few c.in_ok-jobs.ensures.jobs in
    let many = c.in_ok-jobs.ensures.count in let callers = c.requires.run.good.callers in let same = ap (room_of {P = g.row.H-Port.Denot} {C = g.row.C.Denot}) c.deref.ensures.value in let room = c.line_room.ensures in omega (arith, few, many, callers, same, room)

pub finish-requires-clause-log_room : goal.finish-requires-clause-log_room
finish-requires-clause-log_room g c =
    let done = all_done g.H.Port.HostPort.gave g.H.Port.HostPort.took g.C.Client.shown g.C.Client.written c.args.trace.now c.args.machine 0 c.in_ok-jobs.jobs.items c.perform_beside-jobs.result.items
    c.requires.plan c.in_ok-jobs.ensures.jobs c.perform_beside-jobs.ensures.count c.perform_beside-jobs.ensures.each in
    let enough = room_enough g.H.Port.HostPort.gave g.H.Port.HostPort.took g.C.Client.shown g.C.Client.written c.args.trace.now c.args.machine 0 c.in_ok-jobs.jobs.items c.perform_beside-jobs.result.items c.in_ok-jobs.ensures.jobs done c.perform_beside-jobs.ensures.count in
    let same = ap (room_of {P = g.row.H-Port.Denot} {C = g.row.C.Denot}) c.deref.ensures.value in let room = c.line_room.ensures in let exact = c.in_ok-log.ensures.exact in omega (arith, enough, same, room, exact)

pub finish-requires-clause-few : goal.finish-requires-clause-few
finish-requires-clause-few g c =
    let done = all_done g.H.Port.HostPort.gave g.H.Port.HostPort.took g.C.Client.shown g.C.Client.written c.args.trace.now c.args.machine 0 c.in_ok-jobs.jobs.items c.perform_beside-jobs.result.items
    c.requires.plan c.in_ok-jobs.ensures.jobs c.perform_beside-jobs.ensures.count c.perform_beside-jobs.ensures.each in
    let enough = room_enough g.H.Port.HostPort.gave g.H.Port.HostPort.took g.C.Client.shown g.C.Client.written c.args.trace.now c.args.machine 0 c.in_ok-jobs.jobs.items c.perform_beside-jobs.result.items c.in_ok-jobs.ensures.jobs done c.perform_beside-jobs.ensures.count in
    let few = room_few c.args.trace.now c.args.machine 0 c.in_ok-jobs.jobs.items (frames_few c.args.trace.now c.requires.run) c.requires.run.lines.few c.in_ok-jobs.ensures.jobs in
    let many = c.in_ok-jobs.ensures.count in let callers = c.requires.run.good.callers in omega (arith, enough, few, many, callers)
