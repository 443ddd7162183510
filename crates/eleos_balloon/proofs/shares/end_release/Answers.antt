use Rattle.std.proofs.Common.{arith, false, Some}
use Rattle.eleos_balloon.proofs.Clocks.{few_listed}
use Rattle.eleos_balloon.proofs.Ending.{ends_one, has_still, may_end, release_ended}
use Rattle.eleos_balloon.proofs.shares.end_release.Goals as goal

pub survey-requires-clause-may : goal.survey-requires-clause-may
survey-requires-clause-may g c = may_end c.args.pass.now c.args.enclave c.args.clock c.args.to false c.end_of-end.result c.end_of-end.new.pass
    (release_ended c.args.pass.now c.args.enclave c.args.clock c.args.to c.left.ensures.lawful c.end_of-end.result c.len-reached.result c.end_of-end.new.pass c.requires.may c.len-reached.ensures c.end_of-end.ensures)

pub give_clock-requires-clause-has : goal.give_clock-requires-clause-has
give_clock-requires-clause-has g c = (
  Some c.args.enclave,
  has_still c.args.pass.now c.args.enclave c.args.clock c.args.to false c.end_of-end.result c.end_of-end.new.pass
      (release_ended c.args.pass.now c.args.enclave c.args.clock c.args.to c.left.ensures.lawful c.end_of-end.result c.len-reached.result c.end_of-end.new.pass c.requires.may c.len-reached.ensures c.end_of-end.ensures)
      c.survey.new.pass c.survey.ensures (Some c.args.enclave) c.args.clock c.requires.may.holds.has,
)

pub returns : goal.returns
returns g c = ends_one c.args.pass.now c.args.enclave c.args.clock c.args.to false c.end_of-end.result c.end_of-end.new.pass
    (release_ended c.args.pass.now c.args.enclave c.args.clock c.args.to c.left.ensures.lawful c.end_of-end.result c.len-reached.result c.end_of-end.new.pass c.requires.may c.len-reached.ensures c.end_of-end.ensures)
    c.survey.new.pass c.survey.ensures c.requires.may.holds c.give_clock.new.pass c.give_clock.ensures

pub overflow_cast-reached : goal.overflow_cast-reached
overflow_cast-reached g c = let a = few_listed c.args.pass.now c.left.ensures.lawful (Some c.args.enclave) c.args.clock c.requires.may.holds.has in let b = c.len-reached.ensures in omega (arith, a, b)
