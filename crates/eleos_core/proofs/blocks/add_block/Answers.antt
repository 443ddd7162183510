use Rattle.eleos_core.proofs.FreeRuns.{insert-is}
use Rattle.eleos_core.proofs.blocks.add_block.Goals as goal

pub returns-clause-ok : goal.returns-clause-ok
returns-clause-ok c = rw (c.in_ok-insert.ensures.items, c.place_for-place.ensures.place, c.deref.ensures.value) (insert-is c.args.block c.args.blocks.now.items)
