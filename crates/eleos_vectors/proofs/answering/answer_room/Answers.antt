use Rattle.std.proofs.Common.{arith}
use Rattle.std.proofs.lemmas.List.{take_all}
use Rattle.eleos_vectors.proofs.answering.answer_room.Goals as goal

pub returns : goal.returns
returns c =
    let inv = c.loop-vector.invariant in
    let room = rw (take_all c.loop-vector.vector-index c.args.vectors.now (omega arith)) at inv.room in
    (omega (arith, room, inv.fits), room)
