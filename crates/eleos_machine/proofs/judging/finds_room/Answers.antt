use Rattle.eleos_base.proofs.PackedBlocks.{room_enough}
use Rattle.eleos_machine.proofs.judging.finds_room.Goals as goal

pub returns : goal.returns
returns c = rw (c.subs_for.ensures, c.free_behind.ensures) (room_enough c.args.plan.now c.args.before.now c.args.block.now.enclave c.args.block.now.bytes c.requires.enclave c.requires.sizes c.requires.some)
