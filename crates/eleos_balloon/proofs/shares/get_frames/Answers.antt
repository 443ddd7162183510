use Rattle.eleos_balloon.proofs.Whole.{gather_left, gather_may_end, got_frames}
use Rattle.eleos_balloon.proofs.shares.get_frames.Goals as goal

pub gather_to-requires-clause-left : goal.gather_to-requires-clause-left
gather_to-requires-clause-left g c = gather_left c.args.pass.now c.left.ensures.lawful c.args.enclave c.args.taken c.args.to c.requires.holds c.requires.left c.begin_gather-pool.result c.begin_gather-pool.new.pass c.begin_gather-pool.ensures c.left-2.ensures.lawful

pub end_gather-requires-clause-may : goal.end_gather-requires-clause-may
end_gather-requires-clause-may g c = gather_may_end c.args.pass.now c.left.ensures.lawful c.args.enclave c.args.taken c.args.to c.requires.holds c.requires.left c.begin_gather-pool.result c.begin_gather-pool.new.pass c.begin_gather-pool.ensures c.left-2.ensures.lawful
    c.gather_to.new.pass c.gather_to.new.clock c.gather_to.new.pool c.gather_to.ensures

pub returns : goal.returns
returns g c = got_frames c.args.pass.now c.left.ensures.lawful c.args.enclave c.args.taken c.args.to c.requires.holds c.requires.left c.begin_gather-pool.result c.begin_gather-pool.new.pass c.begin_gather-pool.ensures c.left-2.ensures.lawful
    c.gather_to.new.pass c.gather_to.new.clock c.gather_to.new.pool c.gather_to.ensures c.end_gather.result c.end_gather.new.pass c.end_gather.ensures
