use Rattle.eleos_base.specs.Answers.{alloc_reply}
use Rattle.eleos_base.specs.declared.memory.Op.TheVariants as calls
use Rattle.eleos_alloc.proofs.Outer.{can_call_with, done_then, held_then, own_then, said_bad}
use Rattle.eleos_alloc.proofs.calls.alloc.Goals as goal

pub alloc_in-answer-requires-clause-can : goal.alloc_in-answer-requires-clause-can
alloc_in-answer-requires-clause-can g c =
    can_call_with c.args.m.now c.args.pass.now c.requires.can c.enclave_of-enclave.result c.take_blocks-blocks.result c.take_blocks-blocks.new.pass c.take_blocks-blocks.ensures
    c.plan.result.now c.who.result c.plan.ensures.plan c.who.ensures c.enclave_of-enclave.ensures

pub give-requires-clause-own : goal.give-requires-clause-own
give-requires-clause-own g c =
    own_then c.args.m.now c.args.pass.now c.requires.can c.enclave_of-enclave.result c.take_blocks-blocks.result c.take_blocks-blocks.new.pass c.take_blocks-blocks.ensures
    (calls.Alloc c.args.bytes) (alloc_reply c.alloc_in-answer.result) c.alloc_in-answer.new.pass c.alloc_in-answer.ensures.one

pub give-requires-clause-held : goal.give-requires-clause-held
give-requires-clause-held g c =
    held_then c.args.m.now c.args.pass.now c.requires.can c.enclave_of-enclave.result c.take_blocks-blocks.result c.take_blocks-blocks.new.pass c.take_blocks-blocks.ensures
    (calls.Alloc c.args.bytes) (alloc_reply c.alloc_in-answer.result) c.alloc_in-answer.new.pass c.alloc_in-answer.ensures.one c.from.result c.from.ensures

pub returns-clause-one : goal.returns-clause-one
returns-clause-one g c =
    done_then c.args.m.now c.args.pass.now c.requires.can c.enclave_of-enclave.result c.take_blocks-blocks.result c.take_blocks-blocks.new.pass c.take_blocks-blocks.ensures
    (calls.Alloc c.args.bytes) (alloc_reply c.alloc_in-answer.result) c.alloc_in-answer.new.pass c.alloc_in-answer.ensures.one c.from.result c.give.new.pass c.from.ensures c.give.ensures

pub returns-then-bytes-eq0-clause-one : goal.returns-then-bytes-eq0-clause-one
returns-then-bytes-eq0-clause-one g c = said_bad c.args.m.now c.args.pass.now c.requires.can c.args.bytes c.set.new.self c.stamp.new.pass c.stamp.result c.set.ensures c.stamp.ensures.stamped
