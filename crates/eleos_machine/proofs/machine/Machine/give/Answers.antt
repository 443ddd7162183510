use Rattle.std.proofs.Common.{◌≡◌, sym, ◌∙◌, subst}
use Rattle.eleos_plot.specs.Cells.{part_of_cell}
use Rattle.eleos_plot.specs.Terms.{core_terms}
use Rattle.eleos_turn.specs.Hands.{part_of}
use Rattle.eleos_machine.specs.Passes.{PassState}
use Rattle.eleos_machine.proofs.machine.Machine.give.Goals as goal

-- the value's part is the one that the turnstile keeps
pub give-requires-clause-right : goal.give-requires-clause-right
give-requires-clause-right g c =
    subst (λ (s : PassState). part_of_cell c.args.value ≡ part_of core_terms s.hand c.args.cell) (sym c.pass.view_is) (c.requires.right ∙ sym (c.left.ensures.lawful.run.parts c.args.cell))
