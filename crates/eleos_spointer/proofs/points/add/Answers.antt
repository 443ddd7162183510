use Rattle.eleos_spointer.proofs.Changing.{pointers_added}
use Rattle.eleos_spointer.proofs.points.add.Goals as goal

pub returns-clause-pointers : goal.returns-clause-pointers
returns-clause-pointers c =
    pointers_added c.args.pass.now c.add_pointer.new.self c.add_pointer.result c.args.pointer
    (record { fresh = c.add_pointer.ensures.fresh; added = c.add_pointer.ensures.added; count = c.add_pointer.ensures.count; rest = c.add_pointer.ensures.rest })
    c.requires.unlinked c.requires.placed c.requires.pointers
