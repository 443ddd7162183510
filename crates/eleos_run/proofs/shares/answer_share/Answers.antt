use Rattle.std.proofs.Common.{◌∙◌, length, ap, arith}
use Rattle.eleos_balloon.specs.Ends.{end_reply}
use Rattle.eleos_core.specs.declared.event.Goal.TheVariants.{To}
use Rattle.eleos_meaning.specs.Told.{survey_answer}
use Rattle.eleos_run.proofs.ShareLines.{share_around}
use Rattle.eleos_run.proofs.SweepLengths.{survey_few}
use Rattle.eleos_run.proofs.shares.answer_share.Goals as goal

pub words_in-sweep-requires-clause-few : goal.words_in-sweep-requires-clause-few
words_in-sweep-requires-clause-few g c = let few = survey_few c.change_share-end.new.pass c.left.ensures.lawful c.change_share-end.ensures.past c.args.pass.now.hand.number c.args.enclave (To c.args.to) c.change_share-end.new.pass.sweep.words (end_reply c.change_share-end.result) c.change_share-end.ensures.sees in
    let same = ap length c.sweep.ensures in omega (arith, few, same)

pub returns : goal.returns
returns g c names = share_around g.P.HostPort.gave g.P.HostPort.took c.args.machine.now c.args.enclave c.args.to c.args.pass.now c.requires.can.own c.change_share-end.result c.args.actor c.args.lines.now c.change_share-end.new.lines c.change_share-end.new.pass c.left.ensures.lawful
    c.change_share-end.ensures c.stamped.result names c.stamped.ensures.stamp
    (c.stamped.ensures.reply ∙ (c.share_answer.ensures ∙ ap (survey_answer (end_reply c.change_share-end.result)) (c.words_in-sweep.ensures ∙ c.sweep.ensures)))
