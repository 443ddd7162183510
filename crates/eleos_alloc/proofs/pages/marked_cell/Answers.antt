use Rattle.std.proofs.Common.{sym, ◌∙◌, subst, ap}
use Rattle.eleos_core.specs.Allots.{page_marked}
use Rattle.eleos_core.specs.Cells.{IsPage}
use Rattle.eleos_base.specs.Places.{all_frames}
use Rattle.eleos_plot.specs.Cells.{part_of_cell}
use Rattle.eleos_plot.specs.Fits.{IsPageCell}
use Rattle.eleos_plot.proofs.Fitting.{cells_show}
use Rattle.eleos_alloc.proofs.pages.marked_cell.Goals as goal

pub mark_page-requires-clause-page : goal.mark_page-requires-clause-page
mark_page-requires-clause-page c =
    let k = c.requires.page.0 in
    let holds : IsPage k.wear (all_frames k) c.in-Page.page = subst (IsPageCell k) c.in-Page.is c.requires.page.1 in
    record { whole = holds.whole; frames = all_frames k; present = holds.present }

pub returns : goal.returns
returns c =
    let k = c.requires.page.0 in
    let holds : IsPage k.wear (all_frames k) c.in-Page.page = subst (IsPageCell k) c.in-Page.is c.requires.page.1 in
    let kept : IsPage k.wear (all_frames k) c.mark_page.new.page = c.mark_page.ensures.keeps k.wear (all_frames k) holds in
    (cells_show k).pages c.mark_page.new.page kept ∙ (c.mark_page.ensures.part
    ∙ (ap (page_marked c.args.mark c.args.run.start c.args.run.len c.args.number) (sym ((cells_show k).pages c.in-Page.page holds))
    ∙ ap (λ value. page_marked c.args.mark c.args.run.start c.args.run.len c.args.number (part_of_cell value)) (sym c.in-Page.is)))
