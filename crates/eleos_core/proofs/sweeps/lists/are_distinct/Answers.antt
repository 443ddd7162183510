use Rattle.eleos_core.proofs.FrameLists.{distinct_decides}
use Rattle.eleos_core.proofs.sweeps.lists.are_distinct.Goals as goal

pub returns : goal.returns
returns c = distinct_decides c.args.sweep.now c.are_seen_once.result c.are_seen_once.ensures
