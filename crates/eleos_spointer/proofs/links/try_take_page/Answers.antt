use Rattle.std.proofs.Common.{◌≡◌, ℕ, ◌<◌, sym, ◌∙◌, ap, subst, arith}
use Rattle.eleos_base.specs.declared.plan.Plan.{Plan}
use Rattle.eleos_base.specs.Places.{all_pages}
use Rattle.eleos_core.specs.Parts.{page_cell}
use Rattle.eleos_machine.specs.Machines.{all_cells, plan_at}
use Rattle.eleos_machine.specs.Passes.{PassState, plan_of}
use Rattle.eleos_machine.specs.Pointers.{cell_under, page_under}
use Rattle.eleos_spointer.proofs.Taking.{number_within, took_page}
use Rattle.eleos_spointer.proofs.links.try_take_page.Goals as goal

pub page_cell-requires-clause-page : goal.page_cell-requires-clause-page
page_cell-requires-clause-page g c =
    subst (λ (k : Plan). c.page_under-number.result < all_pages k) (sym c.plan-2.ensures.plan)
    (number_within c.args.m.now c.args.pass.now c.args.pointer c.requires.can c.requires.placed c.plan.ensures.made.made.good c.page_under-number.result
    (c.page_under-number.ensures ∙ ap (λ (k : Plan). page_under k c.args.pointer) c.plan.ensures.plan))

pub try_take-requires-clause-cell : goal.try_take-requires-clause-cell
try_take-requires-clause-cell g c =
    let inside = number_within c.args.m.now c.args.pass.now c.args.pointer c.requires.can c.requires.placed c.plan.ensures.made.made.good c.page_under-number.result
    (c.page_under-number.ensures ∙ ap (λ (k : Plan). page_under k c.args.pointer) c.plan.ensures.plan) in
    let is : c.page_cell.result ≡ page_cell (plan_at c.args.m.now) c.page_under-number.result = c.page_cell.ensures ∙ ap (λ (k : Plan). page_cell k c.page_under-number.result) c.plan-2.ensures.plan in
    subst (λ (n : ℕ). n < all_cells (plan_at c.args.m.now)) (sym is) (omega (arith, inside))

pub returns-clause-took : goal.returns-clause-took
returns-clause-took g c =
    let s : PassState = c.args.pass.now in
    let number : c.page_under-number.result ≡ page_under (plan_of s) c.args.pointer = c.page_under-number.ensures ∙ ap (λ (k : Plan). page_under k c.args.pointer) (c.plan.ensures.plan ∙ sym (ap plan_at c.requires.can.own)) in
    let is : c.page_cell.result ≡ cell_under (plan_of s) c.args.pointer = c.page_cell.ensures ∙ (ap (λ (k : Plan). page_cell k c.page_under-number.result) (c.plan-2.ensures.plan ∙ sym (ap plan_at c.requires.can.own)) ∙ ap (page_cell (plan_of s)) number) in
    took_page c.args.m.now s c.args.pointer c.requires.can c.requires.placed c.page_under-number.result c.page_cell.result _ number is _ c.try_take.new.pass c.in_ok-taken.ensures.took c.try_take.ensures.lawful
