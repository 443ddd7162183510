use Rattle.std.proofs.Common.{◌∙◌, arith}
use Rattle.eleos_run.proofs.ShareLines.{share_begun, share_of_none}
use Rattle.eleos_run.proofs.shares.change_share.Goals as goal

pub get_frames-requires-clause-own : goal.get_frames-requires-clause-own
get_frames-requires-clause-own g c = c.begin_share-clock.ensures.made.goes.home ∙ c.requires.can.own

pub get_frames-requires-clause-left : goal.get_frames-requires-clause-left
get_frames-requires-clause-left g c = let a = c.begin_share-clock.ensures.made.goes.left in let b = c.requires.can.left in omega (arith, a, b)

pub give_frames-requires-clause-own : goal.give_frames-requires-clause-own
give_frames-requires-clause-own g c = c.begin_share-clock.ensures.made.goes.home ∙ c.requires.can.own

pub give_frames-requires-clause-left : goal.give_frames-requires-clause-left
give_frames-requires-clause-left g c = let a = c.begin_share-clock.ensures.made.goes.left in let b = c.requires.can.left in omega (arith, a, b)

pub returns-then-len-to : goal.returns-then-len-to
returns-then-len-to g c = share_begun g.P.HostPort.gave g.P.HostPort.took c.args.machine.now c.args.enclave c.args.to c.get_frames.result c.args.actor c.args.lines.now c.get_frames.new.lines c.args.pass.now c.begin_share-clock.new.pass c.get_frames.new.pass c.begin_share-clock.ensures.made
    (share_of_none g.P.HostPort.gave g.P.HostPort.took c.args.machine.now c.args.enclave c.args.to c.get_frames.result c.args.actor c.args.lines.now c.get_frames.new.lines c.begin_share-clock.new.pass c.get_frames.new.pass c.get_frames.ensures)

pub returns-else-len-to : goal.returns-else-len-to
returns-else-len-to g c = share_begun g.P.HostPort.gave g.P.HostPort.took c.args.machine.now c.args.enclave c.args.to c.give_frames.result c.args.actor c.args.lines.now c.give_frames.new.lines c.args.pass.now c.begin_share-clock.new.pass c.give_frames.new.pass c.begin_share-clock.ensures.made c.give_frames.ensures
