use Rattle.std.proofs.Common.{sym, ◌∙◌}
use Rattle.eleos_spointer.proofs.Stepping.{small_of}
use Rattle.eleos_spointer.proofs.points.place.Goals as goal

pub place_of-requires : goal.place_of-requires
place_of-requires c = small_of c.args.pass.now c.args.id c.in-Some.pointer c.requires.pointers (sym c.pointer.ensures ∙ c.in-Some.is)
