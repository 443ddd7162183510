use Rattle.std.proofs.Common.{◌≡◌, List, [], ◌∷◌, ◌++◌, length, None, sym, ap, ◌∙◌, subst, arith}
use Rattle.eleos_core.proofs.Runs.{runs-plain}
use Rattle.eleos_machine.specs.Closing.{AllOfMachine, HasClosed, close_fault}
use Rattle.eleos_machine.specs.Machines.{all_passes}
use Rattle.eleos_machine.specs.Passes.{PassState}
use Rattle.eleos_report.specs.declared.line.LogLine.{LogLine}
use Rattle.eleos_report.specs.declared.line.LogLine.TheVariants.{End}
use Rattle.eleos_run.specs.Lines.{stamps_in}
use Rattle.eleos_run.proofs.Whole.{may_close, run_of}
use Rattle.eleos_run.proofs.runs.finish.Goals as goal

pub closed-pass-requires-clause-own : goal.closed-pass-requires-clause-own
closed-pass-requires-clause-own g c = subst (λ (ss : List PassState). AllOfMachine c.args.machine ss) (sym c.part.ensures.passes)
    (may_close g.P.HostPort.gave g.P.HostPort.took g.C.Client.shown g.C.Client.written c.args._trace.now c.args.machine c.args.jobs.items c.requires.done (c.requires.count ∙ sym (c.requires.machine.passes ∙ ap all_passes c.requires.plan))).0

pub closed-pass-requires-clause-no_fault : goal.closed-pass-requires-clause-no_fault
closed-pass-requires-clause-no_fault g c = subst (λ (ss : List PassState). close_fault c.args.machine.base.hands ss ≡ None) (sym c.part.ensures.passes)
    (may_close g.P.HostPort.gave g.P.HostPort.took g.C.Client.shown g.C.Client.written c.args._trace.now c.args.machine c.args.jobs.items c.requires.done (c.requires.count ∙ sym (c.requires.machine.passes ∙ ap all_passes c.requires.plan))).1

pub part-requires-clause-log_room : goal.part-requires-clause-log_room
part-requires-clause-log_room g c = let room = c.requires.log_room in omega (arith, room)

pub with_end-requires-clause-few : goal.with_end-requires-clause-few
with_end-requires-clause-few g c = let few = c.requires.few in let long = ap length c.part.ensures.lines in omega (arith, few, long)

pub with_end-requires-clause-room : goal.with_end-requires-clause-room
with_end-requires-clause-room g c = let room = c.requires.log_room in let kept = c.part.ensures.log_capacity in let long = ap length c.part.ensures.lines in omega (arith, room, kept, long)

pub returns : goal.returns
returns g c = run_of g.P.HostPort.gave g.P.HostPort.took g.C.Client.shown g.C.Client.written c.args._trace.now c.args.machine c.args.jobs.items c.closed-pass.result c.of-log.result (length (stamps_in c.part.new.log.items))
    c.requires.run c.requires.machine c.requires.plan c.requires.key c.requires.done c.requires.count
    (subst (λ (ss : List PassState). HasClosed c.args.machine ss c.closed-pass.result) c.part.ensures.passes c.closed-pass.ensures)
    runs-plain (c.of-log.ensures ∙ (c.with_end.ensures ∙ ap (λ (ls : List LogLine). ls ++ End (length (stamps_in c.part.new.log.items)) ∷ []) c.part.ensures.lines)) (ap (λ (ls : List LogLine). length (stamps_in ls)) c.part.ensures.lines)
