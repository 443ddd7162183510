use Rattle.eleos_core.proofs.OpeningPages.{holds_more, pages_more}
use Rattle.eleos_core.proofs.opening.pages.add_pages.Goals as goal

pub loop-page-preserved : goal.loop-page-preserved
loop-page-preserved c = record {
  parts = pages_more c.args.pages.now.items c.loop-page.pages.items c.in_ok-make_page.field-0 c.push.new.self.items c.args.cell.now c.loop-page.page
      c.in_ok-push.ensures.items c.in_ok-make_page.ensures.part c.loop-page.invariant.parts;
  each = λ all. holds_more c.loop-page.pages.items c.push.new.self.items c.in_ok-make_page.field-0 c.in_ok-push.ensures.items c.in_ok-make_page.ensures.page (c.loop-page.invariant.each all);
}
