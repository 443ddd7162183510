use Rattle.std.proofs.Common.{◌≡◌, ◌<◌, [], vec_capacity, sym, subst}
use Rattle.eleos_machine.specs.Passes.{PassState}
use Rattle.eleos_machine.proofs.Stamps.{fields_kept, goes_tried}
use Rattle.eleos_machine.proofs.Lawful.{after_try}
use Rattle.eleos_machine.proofs.machine.Machine.try_take.Goals as goal

pub returns-clause-took : goal.returns-clause-took
returns-clause-took g c = (after_try c.args.cell _ c.args.pass.now c.try_take.new.hand c.try_take.result c.pass.view_is c.requires.made c.left.ensures.lawful c.try_take.ensures.sound c.try_take.ensures.took c.try_take.ensures.refused).0

pub returns-clause-lawful : goal.returns-clause-lawful
returns-clause-lawful g c = (after_try c.args.cell _ c.args.pass.now c.try_take.new.hand c.try_take.result c.pass.view_is c.requires.made c.left.ensures.lawful c.try_take.ensures.sound c.try_take.ensures.took c.try_take.ensures.refused).1

pub invariant_of-pass : goal.invariant_of-pass
invariant_of-pass g c =
    fields_kept c.pass.inside.hand c.try_take.new.hand c.pass.inside.local.last (c.pass.inside.local.room.items ≡ []) (vec_capacity c.pass.inside.local.room)
    (goes_tried c.args.cell c.try_take.result c.pass.inside.hand c.try_take.new.hand (subst (λ (s : PassState). 0 < s.hand.number) (sym c.pass.view_is) c.requires.made) c.try_take.ensures.took c.try_take.ensures.refused)
    c.pass.invariant
