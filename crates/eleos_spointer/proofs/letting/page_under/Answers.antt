use Rattle.eleos_spointer.proofs.Places.{small_place}
use Rattle.eleos_spointer.proofs.letting.page_under.Goals as goal

pub place_of-requires : goal.place_of-requires
place_of-requires c = small_place c.args.plan.now c.args.pointer.block.enclave c.args.pointer c.requires.good c.requires.enclave c.requires.placed
