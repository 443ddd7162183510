use Rattle.std.proofs.Common.{◌≡◌, ℕ, ◌<◌, sym, ◌∙◌, ap, subst}
use Rattle.eleos_base.specs.declared.plan.Plan.{Plan}
use Rattle.eleos_base.specs.Places.{all_pages}
use Rattle.eleos_base.specs.Ties.{Has}
use Rattle.eleos_core.specs.Parts.{page_cell}
use Rattle.eleos_machine.specs.Machines.{plan_at}
use Rattle.eleos_machine.specs.Passes.{PassState, gave, part_seen, plan_of}
use Rattle.eleos_plot.specs.Cells.{part_of_cell}
use Rattle.eleos_spointer.proofs.bringing.give_page.Goals as goal

pub page_cell-requires-clause-page : goal.page_cell-requires-clause-page
page_cell-requires-clause-page g c =
    subst (λ (k : Plan). c.args.page.page < all_pages k) (ap plan_at c.requires.own ∙ sym c.plan.ensures.plan) c.requires.has.number

pub give-requires-clause-held : goal.give-requires-clause-held
give-requires-clause-held g c =
    let s : PassState = c.args.pass.now in
    let is : c.page_cell.result ≡ page_cell (plan_of s) c.args.page.page = c.page_cell.ensures ∙ ap (λ (k : Plan). page_cell k c.args.page.page) (c.plan.ensures.plan ∙ sym (ap plan_at c.requires.own)) in
    subst (λ (n : ℕ). Has n s.hand.turns) (sym is) c.requires.has.turn

pub give-requires-clause-right : goal.give-requires-clause-right
give-requires-clause-right g c =
    let s : PassState = c.args.pass.now in
    let is : c.page_cell.result ≡ page_cell (plan_of s) c.args.page.page = c.page_cell.ensures ∙ ap (λ (k : Plan). page_cell k c.args.page.page) (c.plan.ensures.plan ∙ sym (ap plan_at c.requires.own)) in
    subst (λ (n : ℕ). part_of_cell c.args.page.cell ≡ part_seen s n) (sym is) c.requires.has.value

pub returns : goal.returns
returns g c =
    let s : PassState = c.args.pass.now in
    let is : c.page_cell.result ≡ page_cell (plan_of s) c.args.page.page = c.page_cell.ensures ∙ ap (λ (k : Plan). page_cell k c.args.page.page) (c.plan.ensures.plan ∙ sym (ap plan_at c.requires.own)) in
    c.give.ensures ∙ ap (gave s) is
