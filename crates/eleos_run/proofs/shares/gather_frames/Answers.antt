use Rattle.std.proofs.Common.{◌∙◌, arith}
use Rattle.eleos_run.proofs.ShareLines.{gets_done, gets_enough, gets_left, gets_more, gets_none, gets_one_more, gets_room, gets_tells}
use Rattle.eleos_run.proofs.shares.gather_frames.Goals as goal

pub loop-done-init : goal.loop-done-init
loop-done-init g c = gets_none c.args.machine.now c.args.pass.now c.requires.own c.left.ensures.lawful c.args.enclave c.args.clock.now c.args.pool.now c.requires.holds c.requires.empty c.args.to c.requires.fewer c.requires.left c.args.actor c.args.lines.now

pub try_frame-requires-clause-own : goal.try_frame-requires-clause-own
try_frame-requires-clause-own g c = c.loop-done.invariant.made.goes.home ∙ c.requires.own

pub try_frame-requires-clause-holds : goal.try_frame-requires-clause-holds
try_frame-requires-clause-holds g c = c.loop-done.invariant.holds

pub try_frame-requires-clause-more : goal.try_frame-requires-clause-more
try_frame-requires-clause-more g c = gets_one_more c.args.machine.now c.args.pass.now c.requires.own c.left.ensures.lawful c.args.enclave c.args.clock.now c.args.pool.now c.requires.holds c.requires.empty c.args.to c.requires.fewer c.requires.left c.args.actor c.args.lines.now c.loop-done._done c.loop-done.pass c.loop-done.clock c.loop-done.pool c.loop-done.lines c.loop-done.invariant (let a = c.loop-done-test.true in let b = c.len-most.ensures in omega (arith, a, b))

pub try_frame-requires-clause-left : goal.try_frame-requires-clause-left
try_frame-requires-clause-left g c = gets_left c.args.machine.now c.args.pass.now c.requires.own c.left.ensures.lawful c.args.enclave c.args.clock.now c.args.pool.now c.requires.holds c.requires.empty c.args.to c.requires.fewer c.requires.left c.args.actor c.args.lines.now c.loop-done._done c.loop-done.pass c.loop-done.clock c.loop-done.pool c.loop-done.lines c.loop-done.invariant (let a = c.loop-done-test.true in let b = c.len-most.ensures in omega (arith, a, b))

pub try_frame-requires-clause-room : goal.try_frame-requires-clause-room
try_frame-requires-clause-room g c = gets_room c.args.machine.now c.args.pass.now c.requires.own c.left.ensures.lawful c.args.enclave c.args.clock.now c.args.pool.now c.requires.holds c.requires.empty c.args.to c.requires.fewer c.requires.left c.args.actor c.args.lines.now c.loop-done._done c.loop-done.pass c.loop-done.clock c.loop-done.pool c.loop-done.lines c.loop-done.invariant (let a = c.loop-done-test.true in let b = c.len-most.ensures in omega (arith, a, b)) c.requires.room

pub loop-done-preserved : goal.loop-done-preserved
loop-done-preserved g c = gets_more c.args.machine.now c.args.pass.now c.requires.own c.left.ensures.lawful c.args.enclave c.args.clock.now c.args.pool.now c.requires.holds c.requires.empty c.args.to c.requires.fewer c.requires.left c.args.actor c.args.lines.now c.loop-done._done c.loop-done.pass c.loop-done.clock c.loop-done.pool c.loop-done.lines c.loop-done.invariant c.try_frame.new.pass c.try_frame.new.clock c.try_frame.new.pool c.try_frame.new.lines (let a = c.if-len-to.false in let b = c.len.ensures in omega (arith, a, b)) c.try_frame.ensures

pub returns-then-len-to-clause-tells : goal.returns-then-len-to-clause-tells
returns-then-len-to-clause-tells g c = gets_tells c.args.machine.now c.args.pass.now c.requires.own c.left.ensures.lawful c.args.enclave c.args.clock.now c.args.pool.now c.requires.holds c.requires.empty c.args.to c.requires.fewer c.requires.left c.args.actor c.args.lines.now c.loop-done._done c.loop-done.pass c.loop-done.clock c.loop-done.pool c.loop-done.lines c.loop-done.invariant (let a = c.loop-done-test.true in let b = c.len-most.ensures in omega (arith, a, b))

pub returns-then-len-to-clause-may : goal.returns-then-len-to-clause-may
returns-then-len-to-clause-may g c = gets_enough c.args.machine.now c.args.pass.now c.requires.own c.left.ensures.lawful c.args.enclave c.args.clock.now c.args.pool.now c.requires.holds c.requires.empty c.args.to c.requires.fewer c.requires.left c.args.actor c.args.lines.now c.loop-done._done c.loop-done.pass c.loop-done.clock c.loop-done.pool c.loop-done.lines c.loop-done.invariant (let a = c.loop-done-test.true in let b = c.len-most.ensures in omega (arith, a, b)) (let a = c.if-len-to.true in let b = c.len.ensures in omega (arith, a, b))

pub returns-clause-tells : goal.returns-clause-tells
returns-clause-tells g c = gets_tells c.args.machine.now c.args.pass.now c.requires.own c.left.ensures.lawful c.args.enclave c.args.clock.now c.args.pool.now c.requires.holds c.requires.empty c.args.to c.requires.fewer c.requires.left c.args.actor c.args.lines.now c.loop-done._done c.loop-done.pass c.loop-done.clock c.loop-done.pool c.loop-done.lines c.loop-done.invariant (let a = c.loop-done-test.false in let b = c.len-most.ensures in let d = c.loop-done.auto._done-end in omega (arith, a, b, d))

pub returns-clause-may : goal.returns-clause-may
returns-clause-may g c = gets_done c.args.machine.now c.args.pass.now c.requires.own c.left.ensures.lawful c.args.enclave c.args.clock.now c.args.pool.now c.requires.holds c.requires.empty c.args.to c.requires.fewer c.requires.left c.args.actor c.args.lines.now c.loop-done._done c.loop-done.pass c.loop-done.clock c.loop-done.pool c.loop-done.lines c.loop-done.invariant (let a = c.loop-done-test.false in let b = c.len-most.ensures in let d = c.loop-done.auto._done-end in omega (arith, a, b, d))
