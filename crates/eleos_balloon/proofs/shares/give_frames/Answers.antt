use Rattle.eleos_balloon.proofs.Whole.{gave_frames, release_left, release_may_end}
use Rattle.eleos_balloon.proofs.shares.give_frames.Goals as goal

pub release_to-requires-clause-left : goal.release_to-requires-clause-left
release_to-requires-clause-left g c = release_left c.args.pass.now c.left.ensures.lawful c.args.enclave c.args.taken c.args.to c.requires.holds c.requires.left

pub end_release-requires-clause-may : goal.end_release-requires-clause-may
end_release-requires-clause-may g c = release_may_end c.args.pass.now c.left.ensures.lawful c.args.enclave c.args.taken c.args.to c.requires.holds c.requires.left g.P.HostPort g.P.HostStore c.args.tap.now c.release_to.new.tap c.release_to.new.pass c.release_to.new.clock c.release_to.ensures

pub returns : goal.returns
returns g c = gave_frames c.args.pass.now c.left.ensures.lawful c.args.enclave c.args.taken c.args.to c.requires.holds c.requires.left g.P.HostPort g.P.HostStore c.args.tap.now c.release_to.new.tap c.release_to.new.pass c.release_to.new.clock c.release_to.ensures
    c.end_release.result c.end_release.new.pass c.end_release.ensures
