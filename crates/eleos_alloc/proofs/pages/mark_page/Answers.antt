use Rattle.std.proofs.Common.{◌≡◌, ◌+◌, ◌-◌, ◌*◌, ◌<◌, ◌≤◌, min, sym, ◌∙◌, ap, arith}
use Rattle.eleos_core.specs.Allots.{page_marked, with_marked}
use Rattle.eleos_core.specs.Cells.{part_of_page}
use Rattle.eleos_core.proofs.MarkedPages.{page_is_one, page_more, page_unmarked}
use Rattle.eleos_alloc.proofs.Marking.{page_clipped}
use Rattle.eleos_alloc.proofs.pages.mark_page.Goals as goal

pub loop-sub-init : goal.loop-sub-init
loop-sub-init c =
    let none : c.max-low.result - c.max-low.result ≡ 0 = omega arith in
    let q = part_of_page c.args.page.now in
    record {
      part = sym (ap (λ n. page_marked c.args.mark c.max-low.result n c.args.number q) none ∙ page_unmarked c.args.mark c.max-low.result c.args.number q);
      keeps = λ wear frames holds. holds;
      whole = c.requires.page;
    }

pub loop-sub-preserved : goal.loop-sub-preserved
loop-sub-preserved c =
    let p = c.args.number in
    let low = c.max-low.result in
    let sub = c.loop-sub.sub in
    let q = part_of_page c.args.page.now in
    let low_is = c.max-low.ensures in
    let high_is = c.min-high.ensures in
    let before = c.loop-sub-test.true in
    let from = c.loop-sub.auto.sub in
    let at : 4 * p + (sub - p * 4) ≡ low + (sub - low) = omega arith in
    let small : sub - p * 4 < 4 = omega arith in
    let more : sub - low + 1 ≡ sub + 1 - low = omega arith in
    record {
      part = c.mark_sub.ensures.part ∙ (ap (with_marked c.args.mark (sub - p * 4)) c.loop-sub.invariant.part
          ∙ (page_more c.args.mark low (sub - low) p (sub - p * 4) at small q (page_is_one c.args.page.now.subs.items c.args.page.now.present c.requires.page.whole)
          ∙ ap (λ n. page_marked c.args.mark low n p q) more));
      keeps = λ wear frames holds. c.mark_sub.ensures.keeps wear frames (c.loop-sub.invariant.keeps wear frames holds);
      whole = c.mark_sub.ensures.whole;
    }

pub returns-clause-part : goal.returns-clause-part
returns-clause-part c =
    let p = c.args.number in
    let low = c.max-low.result in
    let low_is = c.max-low.ensures in
    let high_is = c.min-high.ensures in
    let ends = c.requires.touches.ends_behind in
    let begins = c.requires.touches.begins_before in
    let some = c.requires.touches.run_is.some in
    let inside : low ≤ c.min-high.result = omega arith in
    let over = c.loop-sub-test.false in
    let most = c.loop-sub.auto.sub-end inside in
    let count : c.loop-sub.sub - low ≡ min (c.args.run.start + c.args.run.len) (p * 4 + 4) - low = omega arith in
    c.loop-sub.invariant.part ∙ page_clipped c.args.mark c.args.run.start c.args.run.len p low (c.loop-sub.sub - low) (part_of_page c.args.page.now)
    (page_is_one c.args.page.now.subs.items c.args.page.now.present c.requires.page.whole) low_is count
