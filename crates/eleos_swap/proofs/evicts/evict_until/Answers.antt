use Rattle.std.proofs.Common.{length, ap, arith}
use Rattle.eleos_swap.proofs.Going.{begins, enough, exhausted, few_in_list, goes_on, left_still, may_go, swept}
use Rattle.eleos_swap.proofs.evicts.evict_until.Goals as goal

pub overflow_add-done-end : goal.overflow_add-done-end
overflow_add-done-end g c =
    let a = few_in_list c.args.m.now c.args.pass.now c.args.clock.now c.requires.may c.left.ensures.lawful c.args.low in let b = c.count_of-most.ensures in omega (arith, a, b)

pub loop-done-init : goal.loop-done-init
loop-done-init g c = begins c.args.m.now c.args.pass.now c.args.clock.now c.requires.may c.left.ensures.lawful c.args.low g.P.HostPort g.P.HostStore c.args.tap.now c.requires.free

pub returns-then-sweep-low-clause-evicts : goal.returns-then-sweep-low-clause-evicts
returns-then-sweep-low-clause-evicts g c = enough c.args.m.now c.args.pass.now c.args.clock.now c.requires.may c.left.ensures.lawful c.args.low g.P.HostPort g.P.HostStore c.args.tap.now
    c.loop-done._done c.loop-done.pass c.loop-done.tap c.loop-done.clock c.loop-done.invariant
    (let a = c.if-sweep-low.true in let b = ap length c.sweep.ensures in omega (arith, a, b))

pub evict_one-requires-clause-may : goal.evict_one-requires-clause-may
evict_one-requires-clause-may g c = may_go c.args.m.now c.args.pass.now c.args.clock.now c.requires.may c.left.ensures.lawful c.args.low g.P.HostPort g.P.HostStore c.args.tap.now
    c.loop-done._done c.loop-done.pass c.loop-done.tap c.loop-done.clock c.loop-done.invariant

pub evict_one-requires-clause-left : goal.evict_one-requires-clause-left
evict_one-requires-clause-left g c = left_still c.args.m.now c.args.pass.now c.args.clock.now c.requires.may c.left.ensures.lawful c.args.low g.P.HostPort g.P.HostStore c.args.tap.now
    c.loop-done._done c.loop-done.pass c.loop-done.tap c.loop-done.clock c.loop-done.invariant c.requires.left

pub returns-in_default-clause-evicts : goal.returns-in_default-clause-evicts
returns-in_default-clause-evicts g c = swept c.args.m.now c.args.pass.now c.args.clock.now c.requires.may c.left.ensures.lawful c.args.low g.P.HostPort g.P.HostStore c.args.tap.now
    c.loop-done._done c.loop-done.pass c.loop-done.tap c.loop-done.clock c.loop-done.invariant c.evict_one.new.pass c.evict_one.new.tap c.in_default.ensures.evicts.0 c.in_default.ensures.evicts.1

pub loop-done-preserved : goal.loop-done-preserved
loop-done-preserved g c = goes_on c.args.m.now c.args.pass.now c.args.clock.now c.requires.may c.left.ensures.lawful c.args.low g.P.HostPort g.P.HostStore c.args.tap.now
    c.loop-done._done c.loop-done.pass c.loop-done.tap c.loop-done.clock c.loop-done.invariant c.evict_one.new.pass c.evict_one.new.tap
    c.in-Some.field-0 c.evict_one.new.clock
    (let a = c.if-sweep-low.false in let b = ap length c.sweep.ensures in omega (arith, a, b))
    c.in-Some.ensures.evicts c.evict_one.ensures.clock

pub unreachable-requires : goal.unreachable-requires
unreachable-requires g c = exhausted c.args.m.now c.args.pass.now c.args.clock.now c.requires.may c.left.ensures.lawful c.args.low g.P.HostPort g.P.HostStore c.args.tap.now
    c.loop-done._done c.loop-done.pass c.loop-done.tap c.loop-done.clock c.loop-done.invariant
    (let a = c.loop-done-test.false in let b = c.count_of-most.ensures in omega (arith, a, b))
