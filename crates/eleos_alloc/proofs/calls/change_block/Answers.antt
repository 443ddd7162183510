use Rattle.eleos_base.specs.Answers.{block_reply}
use Rattle.eleos_alloc.specs.Changes.{call_of}
use Rattle.eleos_alloc.proofs.Outer.{can_call_with, done_then, held_then, own_then}
use Rattle.eleos_alloc.proofs.calls.change_block.Goals as goal

pub change_in-answer-requires : goal.change_in-answer-requires
change_in-answer-requires g c = record {
  can = can_call_with c.args.m.now c.args.pass.now c.requires.can c.enclave_of-enclave.result c.take_blocks-blocks.result c.take_blocks-blocks.new.pass c.take_blocks-blocks.ensures
      c.plan.result.now c.who.result c.plan.ensures.plan c.who.ensures c.enclave_of-enclave.ensures;
}

pub give-requires-clause-own : goal.give-requires-clause-own
give-requires-clause-own g c =
    own_then c.args.m.now c.args.pass.now c.requires.can c.enclave_of-enclave.result c.take_blocks-blocks.result c.take_blocks-blocks.new.pass c.take_blocks-blocks.ensures
    (call_of c.args.change c.args.at) (block_reply c.change_in-answer.result) c.change_in-answer.new.pass c.change_in-answer.ensures.one

pub give-requires-clause-held : goal.give-requires-clause-held
give-requires-clause-held g c =
    held_then c.args.m.now c.args.pass.now c.requires.can c.enclave_of-enclave.result c.take_blocks-blocks.result c.take_blocks-blocks.new.pass c.take_blocks-blocks.ensures
    (call_of c.args.change c.args.at) (block_reply c.change_in-answer.result) c.change_in-answer.new.pass c.change_in-answer.ensures.one c.from.result c.from.ensures

pub returns : goal.returns
returns g c = record {
  one = done_then c.args.m.now c.args.pass.now c.requires.can c.enclave_of-enclave.result c.take_blocks-blocks.result c.take_blocks-blocks.new.pass c.take_blocks-blocks.ensures
      (call_of c.args.change c.args.at) (block_reply c.change_in-answer.result) c.change_in-answer.new.pass c.change_in-answer.ensures.one c.from.result c.give.new.pass c.from.ensures c.give.ensures;
}
