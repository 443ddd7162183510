use Rattle.std.proofs.Common.{arith, ◌∙◌}
use Rattle.std.proofs.lemmas.Simd.{length-put_chunk}
use Rattle.std.proofs.lemmas.List.{length-set}
use Rattle.eleos_lanes.proofs.XorBytes.{chunk_step, byte_step, all_done, xored}
use Rattle.eleos_lanes.proofs.bytes.xor_into.Goals as goal

pub loop-at-preserved : goal.loop-at-preserved
loop-at-preserved c =
    let i = c.loop-at.invariant in
    let done = chunk_step c.loop-at.into c.args.into.now c.args.from.now c.loop-at.at i.0 (omega arith) (i.2, i.3) in
    (length-put_chunk c.loop-at.at c.loop-at.into (xored c.loop-at.into c.args.from.now c.loop-at.at) ∙ i.0, omega arith, done.0, done.1)

pub loop-at-2-preserved : goal.loop-at-2-preserved
loop-at-2-preserved c =
    let i = c.loop-at-2.invariant in
    let done = byte_step c.loop-at-2.into c.args.into.now c.args.from.now c.loop-at-2.at (omega arith) (i.2, i.3) in
    (length-set c.loop-at-2.into c.loop-at-2.at _ ∙ i.0, omega arith, done.0, done.1)

pub returns : goal.returns
returns c =
    let i = c.loop-at-2.invariant in
    all_done c.loop-at-2.into c.args.into.now c.args.from.now c.loop-at-2.at i.0 c.requires c.loop-at-2-test.false (i.2, i.3)
