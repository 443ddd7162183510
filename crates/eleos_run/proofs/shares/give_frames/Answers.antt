use Rattle.std.proofs.Common.{◌∙◌, false}
use Rattle.eleos_run.proofs.ShareLines.{share_told}
use Rattle.eleos_run.proofs.shares.give_frames.Goals as goal

pub returns : goal.returns
returns g c = share_told g.P.HostPort.gave g.P.HostPort.took c.args.machine.now c.args.enclave c.args.to c.end_release.result c.args.actor c.args.lines.now c.release_frames.new.lines c.args.pass.now c.release_frames.new.pass c.end_release.new.pass false c.release_frames.ensures.tells c.end_release.ensures

pub end_release-requires-clause-own : goal.end_release-requires-clause-own
end_release-requires-clause-own g c = c.release_frames.ensures.tells.makes.goes.home ∙ c.requires.own
