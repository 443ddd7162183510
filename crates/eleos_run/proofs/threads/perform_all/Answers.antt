use Rattle.std.proofs.Common.{subst}
use Rattle.eleos_run.specs.declared.jobs.Job.{Job}
use Rattle.eleos_run.specs.Jobs.{HasRun}
use Rattle.eleos_run.proofs.threads.perform_all.Goals as goal

pub returns : goal.returns
returns g c k j below = let q = (c.for_each_mut.ensures k j below).1 in
    subst (λ (z : Job g.row.P.Denot g.row.C.Denot × Job g.row.P.Denot g.row.C.Denot). HasRun g.P.HostPort.gave g.P.HostPort.took g.C.Client.shown g.C.Client.written c.args.machine.now z.0 z.1) (λ i. (q.argument_is i, q.left i)) q.call
