use Rattle.std.proofs.Common.{None}
use Rattle.eleos_balloon.proofs.Releasing.{made, may_move, pool_free, released}
use Rattle.eleos_balloon.proofs.releases.release.Goals as goal

pub pool_clock-pool-requires-clause-made : goal.pool_clock-pool-requires-clause-made
pool_clock-pool-requires-clause-made g c = made c.args.enclave c.args.clock.now c.args.free c.args.pass.now c.requires.may c.left.ensures.lawful

pub pool_clock-pool-requires-clause-free : goal.pool_clock-pool-requires-clause-free
pool_clock-pool-requires-clause-free g c = pool_free c.args.enclave c.args.clock.now c.args.free c.args.pass.now c.requires.may c.left.ensures.lawful c.args.m.now c.requires.own

pub move_frame-requires-clause-may : goal.move_frame-requires-clause-may
move_frame-requires-clause-may g c = may_move c.args.enclave c.args.clock.now c.args.free c.args.pass.now c.requires.may c.left.ensures.lawful c.pool_clock-pool.result c.pool_clock-pool.new.pass c.pool_clock-pool.ensures c.requires.left

pub give_clock-requires-clause-has : goal.give_clock-requires-clause-has
give_clock-requires-clause-has g c = (None, c.move_frame.ensures.to_has)

pub returns : goal.returns
returns g c = released c.args.enclave c.args.clock.now c.args.free c.args.pass.now c.requires.may c.left.ensures.lawful c.pool_clock-pool.result c.pool_clock-pool.new.pass c.pool_clock-pool.ensures
    c.move_frame.new.pass c.move_frame.new.from_clock c.move_frame.new.to_clock c.move_frame.ensures c.last_stamp-stamp.result c.give_clock.new.pass c.last_stamp-stamp.ensures c.give_clock.ensures
