use Rattle.eleos_swap.proofs.RoundEnds.{few_words, may_end, round_ends}
use Rattle.eleos_swap.proofs.ends.end_round.Goals as goal

pub end_of-end-requires-clause-few : goal.end_of-end-requires-clause-few
end_of-end-requires-clause-few g c = few_words c.args.pass.now c.args.enclave c.args.clock c.args.low c.requires.may c.left.ensures.lawful

pub survey-requires-clause-may : goal.survey-requires-clause-may
survey-requires-clause-may g c = may_end c.args.pass.now c.args.enclave c.args.clock c.args.low c.requires.may c.left.ensures.lawful
    c.end_of-end.result c.end_of-end.new.pass c.end_of-end.ensures

pub returns : goal.returns
returns g c = round_ends c.args.pass.now c.args.enclave c.args.clock c.args.low c.requires.may c.left.ensures.lawful
    c.end_of-end.result c.end_of-end.new.pass c.end_of-end.ensures c.survey.new.pass c.give_clock.new.pass c.survey.ensures c.give_clock.ensures
