use Rattle.std.proofs.Common.{arith}
use Rattle.eleos_balloon.proofs.Going.{gather_begins, gather_done, gather_enough, gather_goes, one_left, one_more}
use Rattle.eleos_balloon.proofs.gathers.gather_to.Goals as goal

pub loop-done-init : goal.loop-done-init
loop-done-init g c = gather_begins c.args.pass.now c.args.enclave c.args.clock.now c.args.pool.now c.args.to c.requires.holds c.requires.fewer

pub gather_one-requires-clause-more : goal.gather_one-requires-clause-more
gather_one-requires-clause-more g c = one_more c.args.pass.now c.args.enclave c.args.clock.now c.args.pool.now c.args.to c.requires.empty c.loop-done._done c.loop-done.pass c.loop-done.clock c.loop-done.pool c.loop-done.invariant
    (let a = c.loop-done-test.true in let b = c.len-most.ensures in omega (arith, a, b))

pub gather_one-requires-clause-left : goal.gather_one-requires-clause-left
gather_one-requires-clause-left g c = one_left c.args.pass.now c.args.enclave c.args.clock.now c.args.pool.now c.args.to c.requires.empty c.loop-done._done c.loop-done.pass c.loop-done.clock c.loop-done.pool c.loop-done.invariant
    (let a = c.loop-done-test.true in let b = c.len-most.ensures in omega (arith, a, b)) c.requires.left

pub loop-done-preserved : goal.loop-done-preserved
loop-done-preserved g c = gather_goes c.args.pass.now c.args.enclave c.args.clock.now c.args.pool.now c.args.to c.requires.empty c.loop-done._done c.loop-done.pass c.loop-done.clock c.loop-done.pool c.loop-done.invariant
    c.gather_one.result c.gather_one.new.pass c.gather_one.new.clock c.gather_one.new.pool (let a = c.if-len-to.false in let b = c.len.ensures in omega (arith, a, b)) c.gather_one.ensures

pub returns-then-len-to : goal.returns-then-len-to
returns-then-len-to g c = gather_enough c.args.pass.now c.args.enclave c.args.clock.now c.args.pool.now c.args.to c.requires.empty c.loop-done._done c.loop-done.pass c.loop-done.clock c.loop-done.pool c.loop-done.invariant
    (let a = c.loop-done-test.true in let b = c.len-most.ensures in omega (arith, a, b)) (let a = c.if-len-to.true in let b = c.len.ensures in omega (arith, a, b))

pub returns : goal.returns
returns g c = gather_done c.args.pass.now c.args.enclave c.args.clock.now c.args.pool.now c.args.to c.requires.empty c.loop-done._done c.loop-done.pass c.loop-done.clock c.loop-done.pool c.loop-done.invariant
    (let a = c.loop-done-test.false in let b = c.len-most.ensures in let d = c.loop-done.auto._done-end in omega (arith, a, b, d))
