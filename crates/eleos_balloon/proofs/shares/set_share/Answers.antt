use Rattle.eleos_balloon.proofs.Whole.{left_still, shares_given, shares_got}
use Rattle.eleos_balloon.proofs.shares.set_share.Goals as goal

pub get_frames-requires-clause-left : goal.get_frames-requires-clause-left
get_frames-requires-clause-left g c = left_still c.args.m.now c.args.enclave c.args.pass.now c.requires.can c.begin_share-taken.result c.begin_share-taken.new.pass c.begin_share-taken.ensures

pub give_frames-requires-clause-left : goal.give_frames-requires-clause-left
give_frames-requires-clause-left g c = left_still c.args.m.now c.args.enclave c.args.pass.now c.requires.can c.begin_share-taken.result c.begin_share-taken.new.pass c.begin_share-taken.ensures

pub returns-then-len-to : goal.returns-then-len-to
returns-then-len-to g c = shares_got c.args.pass.now c.args.enclave c.args.to c.begin_share-taken.result c.begin_share-taken.new.pass c.begin_share-taken.ensures g.P.HostPort g.P.HostStore c.args.tap.now c.get_frames.result c.get_frames.new.pass c.get_frames.ensures

pub returns-else-len-to : goal.returns-else-len-to
returns-else-len-to g c = shares_given c.args.pass.now c.args.enclave c.args.to c.begin_share-taken.result c.begin_share-taken.new.pass c.begin_share-taken.ensures g.P.HostPort g.P.HostStore c.args.tap.now c.give_frames.result c.give_frames.new.pass c.give_frames.new.tap c.give_frames.ensures
