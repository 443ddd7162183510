use Rattle.std.proofs.Common.{sym, ◌∙◌}
use Rattle.eleos_machine.specs.Passes.{plan_of}
use Rattle.eleos_spointer.specs.Ranges.{home_of}
use Rattle.eleos_spointer.proofs.Stepping.{placed_of, unlinked_placed}
use Rattle.eleos_spointer.proofs.points.copy.Goals as goal

pub add-requires-clause-placed : goal.add-requires-clause-placed
add-requires-clause-placed c = unlinked_placed (plan_of c.args.pass.now) (home_of c.args.pass.now) c.in-Some.pointer (placed_of c.args.pass.now c.args.id c.in-Some.pointer c.requires.pointers (sym c.pointer.ensures ∙ c.in-Some.is))
