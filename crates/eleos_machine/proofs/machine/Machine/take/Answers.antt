use Rattle.std.proofs.Common.{◌≡◌, ◌<◌, [], vec_capacity, sym, subst}
use Rattle.eleos_plot.specs.Terms.{core_terms}
use Rattle.eleos_machine.specs.Passes.{PassState}
use Rattle.eleos_turn.proofs.Clients.{goes_took}
use Rattle.eleos_machine.proofs.Stamps.{fields_kept}
use Rattle.eleos_machine.proofs.Lawful.{after_take}
use Rattle.eleos_machine.proofs.machine.Machine.take.Goals as goal

pub returns-clause-took : goal.returns-clause-took
returns-clause-took g c = (after_take c.args.cell c.take.result.word _ c.args.pass.now c.take.new.hand c.take.result.value c.pass.view_is c.requires.made c.left.ensures.lawful c.take.ensures.sound c.take.ensures.took).0

pub returns-clause-lawful : goal.returns-clause-lawful
returns-clause-lawful g c = (after_take c.args.cell c.take.result.word _ c.args.pass.now c.take.new.hand c.take.result.value c.pass.view_is c.requires.made c.left.ensures.lawful c.take.ensures.sound c.take.ensures.took).1

pub invariant_of-pass : goal.invariant_of-pass
invariant_of-pass g c =
    fields_kept c.pass.inside.hand c.take.new.hand c.pass.inside.local.last (c.pass.inside.local.room.items ≡ []) (vec_capacity c.pass.inside.local.room)
    (goes_took core_terms c.args.cell c.take.result.word c.pass.inside.hand c.take.new.hand c.take.result.value (subst (λ (s : PassState). 0 < s.hand.number) (sym c.pass.view_is) c.requires.made) c.take.ensures.took)
    c.pass.invariant
