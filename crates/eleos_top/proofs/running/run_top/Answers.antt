use Rattle.std.proofs.Common.{Err, Some, ap, refl, sym, subst}
use Rattle.eleos_base.specs.declared.status.Status.{Status}
use Rattle.eleos_core.proofs.Fresh.{fresh_nonces}
use Rattle.eleos_run.specs.Runs.{IsRunOf}
use Rattle.eleos_trace.specs.declared.trace.Kind.TheVariants.{Run}
use Rattle.eleos_trace.specs.Reading.{trace_of}
use Rattle.eleos_top.specs.declared.running.RunEnd.{RunEnd}
use Rattle.eleos_top.specs.Outcome.{PutsBy}
use Rattle.eleos_top.specs.RunEnds.{CallersRan, IsRunText}
use Rattle.eleos_top.proofs.Refusing.{PutsBy-refused}
use Rattle.eleos_top.proofs.RunTexts.{has_run, puts_log, ran_by}
use Rattle.eleos_top.proofs.running.run_top.Goals as goal

pub returns-in-Err-Refused-clause-puts : goal.returns-in-Err-Refused-clause-puts
returns-in-Err-Refused-clause-puts g c =
    let bad = c.in-Err-Refused.bad in
    subst (λ (s : Status). PutsBy (trace_of Run) (IsRunText (IsRunOf g.H.Space.Port.HostPort.gave g.H.Space.Port.HostPort.took g.W.Port.RingPort.showed g.W.Port.RingPort.wrote) c.none_ran-in-Err-Refused.result) s (g.S.Source.left c.args.source.now) (g.K.Sink.got c.args.sink.now) (g.K.Sink.got c.refuse.new.sink) (g.K.Sink.faults c.args.sink.now) (g.K.Sink.faults c.refuse.new.sink))
    (sym c.none_ran-in-Err-Refused.ensures.status)
    (PutsBy-refused (trace_of Run) (IsRunText (IsRunOf g.H.Space.Port.HostPort.gave g.H.Space.Port.HostPort.took g.W.Port.RingPort.showed g.W.Port.RingPort.wrote) c.none_ran-in-Err-Refused.result) bad _ _ _ _ c.refuse.result _ (c.in-Err-Refused.ensures.refused bad (ap Err c.in-Err-Refused.field-0-is)) c.refuse.ensures.line c.refuse.ensures.memory c.refuse.ensures.only)

pub returns-clause-puts : goal.returns-clause-puts
returns-clause-puts g c =
    let end : RunEnd = record { status = c.put_log.result; pass = Some c.in-Ok-run.done.pass; log = c.in-Ok-run.done.log } in
    let ran : CallersRan (IsRunOf g.H.Space.Port.HostPort.gave g.H.Space.Port.HostPort.took g.W.Port.RingPort.showed g.W.Port.RingPort.wrote) end c.in-Ok.trace = has_run (IsRunOf g.H.Space.Port.HostPort.gave g.H.Space.Port.HostPort.took g.W.Port.RingPort.showed g.W.Port.RingPort.wrote) end c.in-Ok.trace c.in-Ok-run.done.pass c.in-Ok.ensures.good.good fresh_nonces c.in-Ok-run.ensures.history refl c.in-Ok-run.ensures in
    puts_log (IsRunOf g.H.Space.Port.HostPort.gave g.H.Space.Port.HostPort.took g.W.Port.RingPort.showed g.W.Port.RingPort.wrote) end c.in-Ok.trace (g.K.Sink.got c.args.sink.now) (g.K.Sink.got c.put_log.new.sink) ran c.put_log.result (g.S.Source.left c.args.source.now) _ _ c.in-Ok.ensures.trace
    (rw c.as_slice.ensures at c.put_log.ensures.done) (rw c.as_slice.ensures at c.put_log.ensures.front) c.put_log.ensures.memory c.put_log.ensures.only

pub returns-clause-ran : goal.returns-clause-ran
returns-clause-ran g c =
    let end : RunEnd = record { status = c.put_log.result; pass = Some c.in-Ok-run.done.pass; log = c.in-Ok-run.done.log } in
    let ran : CallersRan (IsRunOf g.H.Space.Port.HostPort.gave g.H.Space.Port.HostPort.took g.W.Port.RingPort.showed g.W.Port.RingPort.wrote) end c.in-Ok.trace = has_run (IsRunOf g.H.Space.Port.HostPort.gave g.H.Space.Port.HostPort.took g.W.Port.RingPort.showed g.W.Port.RingPort.wrote) end c.in-Ok.trace c.in-Ok-run.done.pass c.in-Ok.ensures.good.good fresh_nonces c.in-Ok-run.ensures.history refl c.in-Ok-run.ensures in
    ran_by (IsRunOf g.H.Space.Port.HostPort.gave g.H.Space.Port.HostPort.took g.W.Port.RingPort.showed g.W.Port.RingPort.wrote) end c.in-Ok.trace c.put_log.result (g.S.Source.left c.args.source.now) ran c.in-Ok.ensures.trace c.put_log.ensures.only
