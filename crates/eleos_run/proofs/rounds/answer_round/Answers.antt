use Rattle.std.proofs.Common.{◌∙◌, length, ap, arith}
use Rattle.eleos_core.specs.declared.event.Goal.TheVariants.{Low}
use Rattle.eleos_meaning.specs.Told.{survey_answer}
use Rattle.eleos_swap.specs.Ends.{end_reply}
use Rattle.eleos_run.proofs.RoundLines.{round_around, round_may_end}
use Rattle.eleos_run.proofs.SweepLengths.{survey_few}
use Rattle.eleos_run.proofs.rounds.answer_round.Goals as goal

pub end_round-end-requires-clause-may : goal.end_round-end-requires-clause-may
end_round-end-requires-clause-may g c = round_may_end g.P.HostPort.gave g.P.HostPort.took c.args.machine.now c.args.enclave c.args.low c.args.pass.now c.requires.can c.begin_round-clock.result c.begin_round-clock.new.pass c.begin_round-clock.ensures c.args.actor c.args.lines.now c.evict_pages.new.lines
    c.evict_pages.new.pass c.evict_pages.ensures.tells c.evict_pages.new.clock c.evict_pages.ensures.clock c.evict_pages.ensures.stop

pub words_in-sweep-requires-clause-few : goal.words_in-sweep-requires-clause-few
words_in-sweep-requires-clause-few g c = let few = survey_few c.end_round-end.new.pass c.left.ensures.lawful c.end_round-end.ensures.past c.evict_pages.new.pass.hand.number c.args.enclave (Low c.args.low) c.end_round-end.new.pass.sweep.words (end_reply c.end_round-end.result) c.end_round-end.ensures.sees in
    let same = ap length c.sweep.ensures in omega (arith, few, same)

pub returns : goal.returns
returns g c names = round_around g.P.HostPort.gave g.P.HostPort.took c.args.machine.now c.args.enclave c.args.low c.args.pass.now c.requires.can c.begin_round-clock.result c.begin_round-clock.new.pass c.begin_round-clock.ensures c.args.actor c.args.lines.now c.evict_pages.new.lines
    c.evict_pages.new.pass c.evict_pages.ensures.tells c.evict_pages.new.clock c.evict_pages.ensures.clock
    c.end_round-end.result c.end_round-end.new.pass c.end_round-end.ensures c.stamped.result names c.stamped.ensures.stamp
    (c.stamped.ensures.reply ∙ (c.round_answer.ensures ∙ ap (survey_answer (end_reply c.end_round-end.result)) (c.words_in-sweep.ensures ∙ c.sweep.ensures)))
