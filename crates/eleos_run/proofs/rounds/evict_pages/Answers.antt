use Rattle.std.proofs.Common.{length, ap, arith}
use Rattle.eleos_swap.proofs.Going.{enough, exhausted, few_in_list, left_still, may_go, swept}
use Rattle.eleos_run.proofs.RoundLines.{written_enough, written_more, written_none, written_room, written_swept}
use Rattle.eleos_run.proofs.rounds.evict_pages.Goals as goal

pub overflow_add-done-end : goal.overflow_add-done-end
overflow_add-done-end g c = let a = few_in_list c.args.machine.now c.args.pass.now c.args.clock.now c.requires.may c.left.ensures.lawful c.args.low in let b = c.len-most.ensures in omega (arith, a, b)

pub loop-done-init : goal.loop-done-init
loop-done-init g c = written_none g.P.HostPort g.P.HostStore c.args.machine.now c.args.pass.now c.args.clock.now c.requires.may c.left.ensures.lawful c.args.low c.args.tap.now c.args.actor c.args.lines.now c.requires.free

pub returns-then-sweep-low-clause-tells : goal.returns-then-sweep-low-clause-tells
returns-then-sweep-low-clause-tells g c = written_enough g.P.HostPort g.P.HostStore c.args.machine.now c.args.pass.now c.args.clock.now c.requires.may c.left.ensures.lawful c.args.low c.args.tap.now c.args.actor c.args.lines.now c.loop-done._done c.loop-done.pass c.loop-done.tap c.loop-done.clock c.loop-done.lines c.loop-done.invariant

pub returns-then-sweep-low-clause-stop : goal.returns-then-sweep-low-clause-stop
returns-then-sweep-low-clause-stop g c = (enough c.args.machine.now c.args.pass.now c.args.clock.now c.requires.may c.left.ensures.lawful c.args.low g.P.HostPort g.P.HostStore c.args.tap.now c.loop-done._done c.loop-done.pass c.loop-done.tap c.loop-done.clock c.loop-done.invariant.far (let a = c.if-sweep-low.true in let b = ap length c.sweep.ensures in omega (arith, a, b))).stop

pub evict_one-requires-clause-may : goal.evict_one-requires-clause-may
evict_one-requires-clause-may g c = may_go c.args.machine.now c.args.pass.now c.args.clock.now c.requires.may c.left.ensures.lawful c.args.low g.P.HostPort g.P.HostStore c.args.tap.now c.loop-done._done c.loop-done.pass c.loop-done.tap c.loop-done.clock c.loop-done.invariant.far

pub evict_one-requires-clause-left : goal.evict_one-requires-clause-left
evict_one-requires-clause-left g c = left_still c.args.machine.now c.args.pass.now c.args.clock.now c.requires.may c.left.ensures.lawful c.args.low g.P.HostPort g.P.HostStore c.args.tap.now c.loop-done._done c.loop-done.pass c.loop-done.tap c.loop-done.clock c.loop-done.invariant.far c.requires.left

pub returns-in_default-clause-tells : goal.returns-in_default-clause-tells
returns-in_default-clause-tells g c = written_swept g.P.HostPort g.P.HostStore c.args.machine.now c.args.pass.now c.args.clock.now c.requires.may c.left.ensures.lawful c.args.low c.args.tap.now c.args.actor c.args.lines.now c.loop-done._done c.loop-done.pass c.loop-done.tap c.loop-done.clock c.loop-done.lines c.loop-done.invariant c.evict_one.new.pass c.in_default.ensures.evicts.0

pub returns-in_default-clause-stop : goal.returns-in_default-clause-stop
returns-in_default-clause-stop g c = (swept c.args.machine.now c.args.pass.now c.args.clock.now c.requires.may c.left.ensures.lawful c.args.low g.P.HostPort g.P.HostStore c.args.tap.now c.loop-done._done c.loop-done.pass c.loop-done.tap c.loop-done.clock c.loop-done.invariant.far c.evict_one.new.pass c.evict_one.new.tap c.in_default.ensures.evicts.0 c.in_default.ensures.evicts.1).stop

pub push_evict-requires : goal.push_evict-requires
push_evict-requires g c = record {
  room = written_room g.P.HostPort g.P.HostStore c.args.machine.now c.args.pass.now c.args.clock.now c.requires.may c.left.ensures.lawful c.args.low c.args.tap.now c.args.actor c.args.lines.now c.loop-done._done c.loop-done.pass c.loop-done.tap c.loop-done.clock c.loop-done.lines c.loop-done.invariant
      c.evict_one.new.pass c.evict_one.new.tap c.evict_one.new.clock c.in-Some.one (let a = c.if-sweep-low.false in let b = ap length c.sweep.ensures in omega (arith, a, b)) c.in-Some.ensures.evicts c.evict_one.ensures.clock c.requires.room;
}

pub loop-done-preserved : goal.loop-done-preserved
loop-done-preserved g c = written_more g.P.HostPort g.P.HostStore c.args.machine.now c.args.pass.now c.args.clock.now c.requires.may c.left.ensures.lawful c.args.low c.args.tap.now c.args.actor c.args.lines.now c.loop-done._done c.loop-done.pass c.loop-done.tap c.loop-done.clock c.loop-done.lines c.loop-done.invariant
    c.evict_one.new.pass c.evict_one.new.tap c.evict_one.new.clock c.in-Some.one (let a = c.if-sweep-low.false in let b = ap length c.sweep.ensures in omega (arith, a, b)) c.in-Some.ensures.evicts c.evict_one.ensures.clock
    c.push_evict.new.lines c.push_evict.ensures

pub unreachable-requires : goal.unreachable-requires
unreachable-requires g c = exhausted c.args.machine.now c.args.pass.now c.args.clock.now c.requires.may c.left.ensures.lawful c.args.low g.P.HostPort g.P.HostStore c.args.tap.now c.loop-done._done c.loop-done.pass c.loop-done.tap c.loop-done.clock c.loop-done.invariant.far (let a = c.loop-done-test.false in let b = c.len-most.ensures in omega (arith, a, b))
