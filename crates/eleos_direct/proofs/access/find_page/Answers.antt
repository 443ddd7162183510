use Rattle.std.proofs.Common.{ℕ, ◌<◌, sym, ◌∙◌, ap, subst}
use Rattle.eleos_base.specs.declared.plan.Plan.{Plan}
use Rattle.eleos_base.specs.Places.{all_pages}
use Rattle.eleos_core.specs.Accesses.{IsSpot}
use Rattle.eleos_core.specs.Parts.{page_cell}
use Rattle.eleos_machine.specs.Machines.{plan_at}
use Rattle.eleos_core.specs.Accesses.{IsAccess}
use Rattle.eleos_pages.proofs.PageCells.{page_of_is, spot_within}
use Rattle.eleos_direct.proofs.access.find_page.Goals as goal

pub page_cell-requires-clause-page : goal.page_cell-requires-clause-page
page_cell-requires-clause-page g c =
    let plan = c.plan-plan.ensures.plan in
    subst (λ (k : Plan). c.spot_of.result.page < all_pages k) (sym plan) (spot_within (plan_at c.args.m.now) c.args.pass.now.hand.number c.args.at c.args.len c.spot_of.result c.plan-plan.ensures.made.made.good c.requires.can.caller
    (subst (λ (k : Plan). IsAccess k c.args.pass.now.hand.number c.args.at c.args.len) plan
    (subst (λ (who : ℕ). IsAccess c.plan-plan.result.now who c.args.at c.args.len) c.who.ensures (sym c.is_access.ensures ∙ c.if-not-is_access.false))) (subst (λ (k : Plan). IsSpot k c.args.at c.spot_of.result) plan c.spot_of.ensures))

pub returns : goal.returns
returns g c =
    let plan = c.plan-plan.ensures.plan in
    page_of_is (plan_at c.args.m.now) c.args.pass.now.hand.number c.args.at c.args.len _ c.spot_of.result c.plan-plan.ensures.made.made.good c.requires.can.caller
    (subst (λ (k : Plan). IsAccess k c.args.pass.now.hand.number c.args.at c.args.len) plan
    (subst (λ (who : ℕ). IsAccess c.plan-plan.result.now who c.args.at c.args.len) c.who.ensures (sym c.is_access.ensures ∙ c.if-not-is_access.false))) (subst (λ (k : Plan). IsSpot k c.args.at c.spot_of.result) plan c.spot_of.ensures)
    (c.page_cell.ensures ∙ ap (λ (k : Plan). page_cell k c.spot_of.result.page) plan)
