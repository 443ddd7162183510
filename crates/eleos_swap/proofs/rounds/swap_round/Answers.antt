use Rattle.eleos_swap.proofs.Whole.{may, swaps}
use Rattle.eleos_swap.proofs.rounds.swap_round.Goals as goal

pub end_round-requires-clause-may : goal.end_round-requires-clause-may
end_round-requires-clause-may g c = may c.args.m.now c.args.enclave c.args.low c.args.pass.now c.requires.can c.begin_round-clock.result c.begin_round-clock.new.pass c.begin_round-clock.ensures
    g.P.HostPort g.P.HostStore c.args.tap.now c.evict_until.new.tap c.evict_until.new.pass c.evict_until.ensures.evicts c.evict_until.new.clock c.evict_until.ensures.clock

pub returns : goal.returns
returns g c = swaps c.args.m.now c.args.enclave c.args.low c.args.pass.now c.requires.can c.begin_round-clock.result c.begin_round-clock.new.pass c.begin_round-clock.ensures
    g.P.HostPort g.P.HostStore c.args.tap.now c.evict_until.new.tap c.evict_until.new.pass c.evict_until.ensures.evicts c.evict_until.new.clock c.evict_until.ensures.clock
    c.end_round.result c.end_round.new.pass c.end_round.ensures
