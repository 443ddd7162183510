use Rattle.std.proofs.Common.{true, None, Some}
use Rattle.eleos_balloon.proofs.Ending.{clock_still, ends_two, gather_ended, has_still, may_end}
use Rattle.eleos_balloon.proofs.shares.end_gather.Goals as goal

pub survey-requires-clause-may : goal.survey-requires-clause-may
survey-requires-clause-may g c = may_end c.args.pass.now c.args.enclave c.args.clock c.args.to true c.end_of-end.result c.end_of-end.new.pass
    (gather_ended c.args.pass.now c.args.enclave c.args.clock c.args.to c.left.ensures.lawful c.args.pool c.end_of-end.result c.len-reached.result c.end_of-end.new.pass c.requires.may c.len-reached.ensures c.end_of-end.ensures)

pub give_clock-requires-clause-has : goal.give_clock-requires-clause-has
give_clock-requires-clause-has g c = (
  None,
  has_still c.args.pass.now c.args.enclave c.args.clock c.args.to true c.end_of-end.result c.end_of-end.new.pass
      (gather_ended c.args.pass.now c.args.enclave c.args.clock c.args.to c.left.ensures.lawful c.args.pool c.end_of-end.result c.len-reached.result c.end_of-end.new.pass c.requires.may c.len-reached.ensures c.end_of-end.ensures)
      c.survey.new.pass c.survey.ensures None c.args.pool c.requires.may.holds.pool_has,
)

pub give_clock-requires-2-clause-has : goal.give_clock-requires-2-clause-has
give_clock-requires-2-clause-has g c = (
  Some c.args.enclave,
  clock_still c.args.pass.now c.args.enclave c.args.clock c.args.to true c.end_of-end.result c.end_of-end.new.pass
      (gather_ended c.args.pass.now c.args.enclave c.args.clock c.args.to c.left.ensures.lawful c.args.pool c.end_of-end.result c.len-reached.result c.end_of-end.new.pass c.requires.may c.len-reached.ensures c.end_of-end.ensures)
      c.survey.new.pass c.survey.ensures c.args.pool c.requires.may.holds c.give_clock.new.pass c.give_clock.ensures,
)

pub returns : goal.returns
returns g c = ends_two c.args.pass.now c.args.enclave c.args.clock c.args.to true c.end_of-end.result c.end_of-end.new.pass
    (gather_ended c.args.pass.now c.args.enclave c.args.clock c.args.to c.left.ensures.lawful c.args.pool c.end_of-end.result c.len-reached.result c.end_of-end.new.pass c.requires.may c.len-reached.ensures c.end_of-end.ensures)
    c.survey.new.pass c.survey.ensures c.args.pool c.requires.may.holds c.give_clock.new.pass c.give_clock-2.new.pass c.give_clock.ensures c.give_clock-2.ensures
