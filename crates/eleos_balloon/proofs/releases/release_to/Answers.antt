use Rattle.std.proofs.Common.{arith}
use Rattle.eleos_balloon.proofs.Going.{release_begins, release_done, release_goes, release_stops, two_left}
use Rattle.eleos_balloon.proofs.releases.release_to.Goals as goal

pub loop-done-init : goal.loop-done-init
loop-done-init g c = release_begins g.P.HostPort g.P.HostStore c.args.pass.now c.args.tap.now c.args.enclave c.args.clock.now c.requires.holds

pub release_one-requires-clause-left : goal.release_one-requires-clause-left
release_one-requires-clause-left g c = two_left g.P.HostPort g.P.HostStore c.args.pass.now c.args.tap.now c.args.enclave c.args.clock.now c.loop-done._done c.loop-done.pass c.loop-done.tap c.loop-done.clock c.loop-done.invariant c.args.to
    (let a = c.loop-done-test.true in let b = c.len.ensures in omega (arith, a, b)) c.requires.left

pub returns-in_default : goal.returns-in_default
returns-in_default g c = release_stops g.P.HostPort g.P.HostStore c.args.pass.now c.args.tap.now c.args.enclave c.args.clock.now c.loop-done._done c.loop-done.pass c.loop-done.tap c.loop-done.clock c.loop-done.invariant c.args.to
    c.release_one.new.pass c.release_one.new.tap c.release_one.new.clock (let a = c.loop-done-test.true in let b = c.len.ensures in omega (arith, a, b)) c.in_default.ensures

pub loop-done-preserved : goal.loop-done-preserved
loop-done-preserved g c = release_goes g.P.HostPort g.P.HostStore c.args.pass.now c.args.tap.now c.args.enclave c.args.clock.now c.loop-done._done c.loop-done.pass c.loop-done.tap c.loop-done.clock c.loop-done.invariant c.args.to
    c.release_one.new.pass c.release_one.new.tap c.release_one.new.clock c.in-Some.field-0 c.in-Some.ensures

pub returns : goal.returns
returns g c = release_done g.P.HostPort g.P.HostStore c.args.pass.now c.args.tap.now c.args.enclave c.args.clock.now c.loop-done._done c.loop-done.pass c.loop-done.tap c.loop-done.clock c.loop-done.invariant c.args.to
    (let a = c.loop-done-test.false in let b = c.len.ensures in let d = c.loop-done.auto._done-end in omega (arith, a, b, d)) c.requires.more
