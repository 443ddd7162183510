use Rattle.std.proofs.Common.{[], sym, subst}
use Rattle.eleos_trace.specs.declared.word.Word.{Word}
use Rattle.eleos_run.specs.Steps.{Speaks}
use Rattle.eleos_pages.proofs.Crossing.{nothing_exchanges}
use Rattle.eleos_run.proofs.Crossing.{block_exchanges}
use Rattle.eleos_run.proofs.Speaking.{host_call}
use Rattle.eleos_meaning.specs.NameTable.{names_in}
use Rattle.eleos_run.proofs.callers.answer.Goals as goal

pub returns-in-Alloc-clause-exchanged : goal.returns-in-Alloc-clause-exchanged
returns-in-Alloc-clause-exchanged g c = block_exchanges g.P.HostPort.gave g.P.HostPort.took c.args.machine.now _ _ _ _ _ _ tt c.answer_alloc.ensures.speaks

pub returns-in-Free-clause-exchanged : goal.returns-in-Free-clause-exchanged
returns-in-Free-clause-exchanged g c = block_exchanges g.P.HostPort.gave g.P.HostPort.took c.args.machine.now _ _ _ _ _ _ tt c.answer_change.ensures

pub returns-in-Share-clause-exchanged : goal.returns-in-Share-clause-exchanged
returns-in-Share-clause-exchanged g c = block_exchanges g.P.HostPort.gave g.P.HostPort.took c.args.machine.now _ _ _ _ _ _ tt c.answer_change-in-Share.ensures

pub returns-in-Some-clause-speaks : goal.returns-in-Some-clause-speaks
returns-in-Some-clause-speaks g c = let reply = c.answer_call.ensures.reply in subst (λ (w : Word). Speaks c.args.machine.now w [] c.answer_call.result c.args.pass.now c.args.pass.now (names_in c.args.names.now) (names_in c.args.names.now)) (sym c.in-Call.is)
    (host_call c.args.machine.now _ _ _ reply.called reply.left c.answer_call.result c.args.pass.now (names_in c.args.names.now) c.answer_call.ensures.stamp reply.reply_is c.requires.can.no_turn)

pub returns-in-Some-clause-exchanged : goal.returns-in-Some-clause-exchanged
returns-in-Some-clause-exchanged g c = nothing_exchanges g.P.HostPort.gave g.P.HostPort.took c.args.machine.now c.args.pass.now
