use Rattle.std.proofs.Common.{◌+◌, ◌/◌, ◌%◌, ◌<◌, length, map, slice_index_or, ap, arith}
use Rattle.eleos_core.specs.Cells.{IsPage, part_of_page}
use Rattle.eleos_core.proofs.ByPlace.{all_at, all_set}
use Rattle.eleos_core.proofs.MarkedPages.{run_more, run_none}
use Rattle.eleos_core.proofs.allots.marks.mark_run.Goals as goal

pub loop-i-init : goal.loop-i-init
loop-i-init c = record {
  parts = run_none c.args.mark c.args.first (map part_of_page c.args.pages.now);
  keeps = λ wear frames all. all;
}

pub mark_sub-requires-clause-page : goal.mark_sub-requires-clause-page
mark_sub-requires-clause-page c =
    let inside : (c.args.first + c.loop-i.i) / 4 < length c.loop-i.pages = (let within = c.requires.within in let same = c.loop-i.auto.pages in let more = c.loop-i-test.true in omega arith) in
    let holds = all_at (IsPage c.requires.pages.wear c.requires.pages.frames) c.loop-i.pages ((c.args.first + c.loop-i.i) / 4) c.index-pages-place.result
    (c.loop-i.invariant.keeps c.requires.pages.wear c.requires.pages.frames c.requires.pages.each) inside in
    record { whole = holds.whole; frames = c.requires.pages.frames; present = holds.present }

pub loop-i-preserved : goal.loop-i-preserved
loop-i-preserved c =
    let page = (c.args.first + c.loop-i.i) / 4 in
    let within : page < length c.args.pages.now = (let all = c.requires.within in let more = c.loop-i-test.true in omega arith) in
    let inside : page < length c.loop-i.pages = (let all = c.requires.within in let same = c.loop-i.auto.pages in let more = c.loop-i-test.true in omega arith) in
    record {
      parts = run_more c.args.mark c.args.first c.loop-i.i page ((c.args.first + c.loop-i.i) % 4) (omega arith) (omega arith) c.requires.pages.wear c.requires.pages.frames
          c.args.pages.now c.loop-i.pages (slice_index_or c.loop-i.pages page c.index-pages-place.result) c.mark_sub.new.page c.requires.pages.each within c.loop-i.invariant.parts
          (ap (slice_index_or c.loop-i.pages page) c.index-pages-place.is) c.mark_sub.ensures.part;
      keeps = λ wear frames all. (let so_far = c.loop-i.invariant.keeps wear frames all in
          all_set (IsPage wear frames) c.loop-i.pages page c.mark_sub.new.page so_far
          (c.mark_sub.ensures.keeps wear frames (all_at (IsPage wear frames) c.loop-i.pages page c.index-pages-place.result so_far inside)));
    }
