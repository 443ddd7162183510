use Rattle.std.proofs.Common.{◌≡◌, ◌<◌, sym, ◌∙◌, ap, subst, arith}
use Rattle.eleos_base.specs.declared.plan.Plan.{Plan}
use Rattle.eleos_base.specs.Places.{all_pages}
use Rattle.eleos_machine.specs.Machines.{Site, all_cells, plan_at}
use Rattle.eleos_machine.specs.Passes.{plan_of}
use Rattle.eleos_plot.specs.Cells.{part_of_cell}
use Rattle.eleos_alloc.proofs.TurnsHeld.{at_cell, may_stamp, next, stamped_with}
use Rattle.eleos_alloc.proofs.holding.+stamp_with_pages.Goals as goal

pub stamp-requires-clause-may : goal.stamp-requires-clause-may
stamp-requires-clause-may g t c = may_stamp c.args.pass.now c.args.run c.args.mark c.args.page c.requires.can (c.if-page-end_page.true ∙ c.end_page.ensures)

pub returns-then-page-end_page : goal.returns-then-page-end_page
returns-then-page-end_page g t c = stamped_with c.args.pass.now c.stamp.result c.stamp.new.pass c.stamp.ensures.stamped

pub page_cell-cell-requires-clause-page : goal.page_cell-cell-requires-clause-page
page_cell-cell-requires-clause-page g t c =
    let s = c.args.pass.now in
    let plan : c.plan.result.now ≡ plan_of s = c.plan.ensures.plan ∙ ap (λ (z : Site). plan_at z) (sym c.requires.own) in
    subst (λ (k : Plan). c.args.page < all_pages k) (sym plan) (next s c.args.run c.args.mark c.args.page c.requires.can (λ same. c.if-page-end_page.false (same ∙ sym c.end_page.ensures))).exists

pub take-value-requires-clause-cell : goal.take-value-requires-clause-cell
take-value-requires-clause-cell g t c =
    let at = at_cell c.args.pass.now c.args.run c.args.mark c.args.page c.requires.can (λ same. c.if-page-end_page.false (same ∙ sym c.end_page.ensures)) c.args.m.now c.plan.result.now c.page_cell-cell.result c.requires.own c.plan.ensures.plan c.page_cell-cell.ensures in
    subst (λ (z : Site). c.page_cell-cell.result < all_cells (plan_at z)) c.requires.own at.within

pub take-value-requires-clause-free : goal.take-value-requires-clause-free
take-value-requires-clause-free g t c =
    (at_cell c.args.pass.now c.args.run c.args.mark c.args.page c.requires.can (λ same. c.if-page-end_page.false (same ∙ sym c.end_page.ensures)) c.args.m.now c.plan.result.now c.page_cell-cell.result c.requires.own c.plan.ensures.plan c.page_cell-cell.ensures).free

pub stamp_with_pages-requires : goal.stamp_with_pages-requires
stamp_with_pages-requires g t c κs within =
    let at = at_cell c.args.pass.now c.args.run c.args.mark c.args.page c.requires.can (λ same. c.if-page-end_page.false (same ∙ sym c.end_page.ensures)) c.args.m.now c.plan.result.now c.page_cell-cell.result c.requires.own c.plan.ensures.plan c.page_cell-cell.ensures in
    let inside = c.requires.can.within in
    let other = c.if-page-end_page.false in
    (omega arith, (within.0, (within.1, (c.take-value.ensures.took.goes.home ∙ c.requires.own, at.still c.take-value.result.word c.take-value.result.value c.take-value.new.pass c.take-value.ensures.took))))

pub marked_cell-requires-clause-page : goal.marked_cell-requires-clause-page
marked_cell-requires-clause-page g t c =
    let at = at_cell c.args.pass.now c.args.run c.args.mark c.args.page c.requires.can (λ same. c.if-page-end_page.false (same ∙ sym c.end_page.ensures)) c.args.m.now c.plan.result.now c.page_cell-cell.result c.requires.own c.plan.ensures.plan c.page_cell-cell.ensures in
    (plan_of c.args.pass.now, at.fits c.take-value.result.word c.take-value.result.value c.take-value.new.pass c.take-value.ensures.took)

pub marked_cell-requires-clause-touches : goal.marked_cell-requires-clause-touches
marked_cell-requires-clause-touches g t c = (next c.args.pass.now c.args.run c.args.mark c.args.page c.requires.can (λ same. c.if-page-end_page.false (same ∙ sym c.end_page.ensures))).touches

pub give-requires-clause-right : goal.give-requires-clause-right
give-requires-clause-right g t c =
    let at = at_cell c.args.pass.now c.args.run c.args.mark c.args.page c.requires.can (λ same. c.if-page-end_page.false (same ∙ sym c.end_page.ensures)) c.args.m.now c.plan.result.now c.page_cell-cell.result c.requires.own c.plan.ensures.plan c.page_cell-cell.ensures in
    at.right c.take-value.result.word c.take-value.result.value c.take-value.new.pass c.stamp_with_pages.new.pass c.take-value.ensures.took c.stamp_with_pages.ensures (part_of_cell c.marked_cell.result) c.marked_cell.ensures

pub returns : goal.returns
returns g t c =
    let at = at_cell c.args.pass.now c.args.run c.args.mark c.args.page c.requires.can (λ same. c.if-page-end_page.false (same ∙ sym c.end_page.ensures)) c.args.m.now c.plan.result.now c.page_cell-cell.result c.requires.own c.plan.ensures.plan c.page_cell-cell.ensures in
    at.back c.take-value.result.word c.take-value.result.value c.take-value.new.pass c.stamp_with_pages.new.pass c.give.new.pass c.take-value.ensures.took c.stamp_with_pages.ensures c.give.ensures
