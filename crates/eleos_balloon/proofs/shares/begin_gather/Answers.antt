use Rattle.eleos_balloon.proofs.Held.{made}
use Rattle.eleos_balloon.proofs.Whole.{gather_begun, pool_unheld}
use Rattle.eleos_balloon.proofs.shares.begin_gather.Goals as goal

pub pool_clock-requires-clause-made : goal.pool_clock-requires-clause-made
pool_clock-requires-clause-made g c = made c.args.enclave c.args.clock.now c.args.pass.now c.requires.holds

pub pool_clock-requires-clause-free : goal.pool_clock-requires-clause-free
pool_clock-requires-clause-free g c = pool_unheld c.args.enclave c.args.clock.now c.args.pass.now c.requires.holds c.args.m.now c.requires.own

pub returns : goal.returns
returns g c = gather_begun c.args.enclave c.args.clock.now c.args.pass.now c.requires.holds c.requires.empty c.pool_clock.result c.pool_clock.new.pass c.pool_clock.ensures
