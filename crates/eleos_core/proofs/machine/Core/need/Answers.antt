use Rattle.std.proofs.Common.{◌≡◌, ◌∙◌, refl, subst, sym}
use Rattle.eleos_core.specs.declared.event.Event.{Event}
use Rattle.eleos_core.specs.Accesses.{taken_places}
use Rattle.eleos_core.specs.Fills.{page_in, sealed_places}
use Rattle.eleos_core.specs.Needs.{needed}
use Rattle.eleos_core.specs.Quiet.{wanted_page, wanted_part}
use Rattle.eleos_core.proofs.NeededPlaces.{needed_covers}
use Rattle.eleos_core.proofs.machine.Core.need.Goals as goal

pub returns-in-Op-clause-covers : goal.returns-in-Op-clause-covers
returns-in-Op-clause-covers c = needed_covers c.args.self.now c.args.who c.args.event.now c.need_of_call.result
    (c.need_of_call.ensures ∙ subst (λ (event : Event). taken_places c.args.self.now c.args.who event ≡ needed c.args.self.now c.args.who event) (sym c.in-Op.is) refl)

pub returns-in-Fill-clause-covers : goal.returns-in-Fill-clause-covers
returns-in-Fill-clause-covers c = needed_covers c.args.self.now c.args.who c.args.event.now c.need_of_page.result
    (c.need_of_page.ensures ∙ subst (λ (event : Event). sealed_places c.in-Fill.page (page_in c.args.self.now c.in-Fill.page) ≡ needed c.args.self.now c.args.who event) (sym c.in-Fill.is) refl)

pub returns-in-Spoiled-clause-covers : goal.returns-in-Spoiled-clause-covers
returns-in-Spoiled-clause-covers c = needed_covers c.args.self.now c.args.who c.args.event.now c.need_of_wanted.result
    (c.need_of_wanted.ensures
    ∙ subst (λ (event : Event). sealed_places (wanted_page c.args.self.now c.in-Spoiled.wanted) (wanted_part c.args.self.now c.in-Spoiled.wanted) ≡ needed c.args.self.now c.args.who event) (sym c.in-Spoiled.is) refl)
