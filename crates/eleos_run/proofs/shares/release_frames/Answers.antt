use Rattle.std.proofs.Common.{◌∙◌, arith}
use Rattle.eleos_run.proofs.ShareLines.{gives_done, gives_left, gives_may_stop, gives_more, gives_none, gives_room, gives_stopped, gives_tells}
use Rattle.eleos_run.proofs.shares.release_frames.Goals as goal

pub loop-done-init : goal.loop-done-init
loop-done-init g c = gives_none g.P.HostPort g.P.HostStore c.args.machine.now c.args.pass.now c.requires.own c.left.ensures.lawful c.args.tap.now c.args.enclave c.args.clock.now c.requires.holds c.args.to c.requires.more c.requires.left c.args.actor c.args.lines.now

pub release_one-requires-clause-own : goal.release_one-requires-clause-own
release_one-requires-clause-own g c = c.loop-done.invariant.made.goes.home ∙ c.requires.own

pub release_one-requires-clause-holds : goal.release_one-requires-clause-holds
release_one-requires-clause-holds g c = c.loop-done.invariant.holds

pub release_one-requires-clause-left : goal.release_one-requires-clause-left
release_one-requires-clause-left g c = gives_left g.P.HostPort g.P.HostStore c.args.machine.now c.args.pass.now c.requires.own c.left.ensures.lawful c.args.tap.now c.args.enclave c.args.clock.now c.requires.holds c.args.to c.requires.more c.requires.left c.args.actor c.args.lines.now c.loop-done._done c.loop-done.pass c.loop-done.tap c.loop-done.clock c.loop-done.lines c.loop-done.invariant (let a = c.loop-done-test.true in let b = c.len.ensures in omega (arith, a, b))

pub returns-in_default-clause-tells : goal.returns-in_default-clause-tells
returns-in_default-clause-tells g c = gives_stopped g.P.HostPort g.P.HostStore c.args.machine.now c.args.pass.now c.requires.own c.left.ensures.lawful c.args.tap.now c.args.enclave c.args.clock.now c.requires.holds c.args.to c.requires.more c.requires.left c.args.actor c.args.lines.now c.loop-done._done c.loop-done.pass c.loop-done.tap c.loop-done.clock c.loop-done.lines c.loop-done.invariant c.release_one.new.pass c.release_one.new.tap c.release_one.new.clock c.in_default.ensures

pub returns-in_default-clause-may : goal.returns-in_default-clause-may
returns-in_default-clause-may g c = gives_may_stop g.P.HostPort g.P.HostStore c.args.machine.now c.args.pass.now c.requires.own c.left.ensures.lawful c.args.tap.now c.args.enclave c.args.clock.now c.requires.holds c.args.to c.requires.more c.requires.left c.args.actor c.args.lines.now c.loop-done._done c.loop-done.pass c.loop-done.tap c.loop-done.clock c.loop-done.lines c.loop-done.invariant c.release_one.new.pass c.release_one.new.tap c.release_one.new.clock c.in_default.ensures (let a = c.loop-done-test.true in let b = c.len.ensures in omega (arith, a, b))

pub push_went-requires : goal.push_went-requires
push_went-requires g c = record { room = gives_room g.P.HostPort g.P.HostStore c.args.machine.now c.args.pass.now c.requires.own c.left.ensures.lawful c.args.tap.now c.args.enclave c.args.clock.now c.requires.holds c.args.to c.requires.more c.requires.left c.args.actor c.args.lines.now c.loop-done._done c.loop-done.pass c.loop-done.tap c.loop-done.clock c.loop-done.lines c.loop-done.invariant c.release_one.new.pass c.release_one.new.tap c.release_one.new.clock (let a = c.loop-done-test.true in let b = c.len.ensures in omega (arith, a, b)) c.requires.room }

pub loop-done-preserved : goal.loop-done-preserved
loop-done-preserved g c = gives_more g.P.HostPort g.P.HostStore c.args.machine.now c.args.pass.now c.requires.own c.left.ensures.lawful c.args.tap.now c.args.enclave c.args.clock.now c.requires.holds c.args.to c.requires.more c.requires.left c.args.actor c.args.lines.now c.loop-done._done c.loop-done.pass c.loop-done.tap c.loop-done.clock c.loop-done.lines c.loop-done.invariant c.release_one.new.pass c.release_one.new.tap c.release_one.new.clock c.in-Some.went c.push_went.new.lines c.in-Some.ensures c.push_went.ensures

pub returns-clause-tells : goal.returns-clause-tells
returns-clause-tells g c = gives_tells g.P.HostPort g.P.HostStore c.args.machine.now c.args.pass.now c.requires.own c.left.ensures.lawful c.args.tap.now c.args.enclave c.args.clock.now c.requires.holds c.args.to c.requires.more c.requires.left c.args.actor c.args.lines.now c.loop-done._done c.loop-done.pass c.loop-done.tap c.loop-done.clock c.loop-done.lines c.loop-done.invariant

pub returns-clause-may : goal.returns-clause-may
returns-clause-may g c = gives_done g.P.HostPort g.P.HostStore c.args.machine.now c.args.pass.now c.requires.own c.left.ensures.lawful c.args.tap.now c.args.enclave c.args.clock.now c.requires.holds c.args.to c.requires.more c.requires.left c.args.actor c.args.lines.now c.loop-done._done c.loop-done.pass c.loop-done.tap c.loop-done.clock c.loop-done.lines c.loop-done.invariant (let a = c.loop-done-test.false in let b = c.len.ensures in let d = c.loop-done.auto._done-end in omega (arith, a, b, d))
