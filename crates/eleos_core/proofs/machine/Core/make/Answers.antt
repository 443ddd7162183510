use Rattle.std.proofs.Common.{◌≡◌, ◌*◌, ◌≤◌, [], length, replicate, sym, ◌∙◌, subst, arith}
use Rattle.eleos_base.specs.declared.plan.Plan.{Plan}
use Rattle.eleos_core.specs.Applying.{Shows}
use Rattle.eleos_core.specs.Cells.{IsCore, cells_of}
use Rattle.eleos_base.specs.Places.{all_pages}
use Rattle.eleos_core.proofs.OpeningCells.{IsOpening, pages_count, shows_opening, core_opening}
use Rattle.eleos_core.proofs.OpeningNumbers.{few_pages}
use Rattle.eleos_core.proofs.machine.Core.make.Goals as goal

pub no_links-requires-clause-pages : goal.no_links-requires-clause-pages
no_links-requires-clause-pages c =
    let count : length c.in_ok-pages.pages.items ≡ all_pages c.args.plan.now = pages_count c.args.plan.now c.in_ok-pages.pages.items c.in_ok-pages.ensures.parts in
    let few : all_pages c.args.plan.now ≤ 4096 = few_pages c.args.plan.now c.requires.good in
    omega (arith, c.in_ok-pages.pages.ok.0)

-- the cells that were made
cells_are : (c : goal.In_ok-copy) → IsOpening c.args.plan.now c.in_ok-live.live.items c.in_ok-clocks.clocks.items c.in_ok-pages.pages.items c.in_ok-frames.frames.items c.in_ok-links.links.items
cells_are c =
    let count : length c.in_ok-pages.pages.items ≡ all_pages c.args.plan.now = pages_count c.args.plan.now c.in_ok-pages.pages.items c.in_ok-pages.ensures.parts in
    let pages : c.len-2.result ≡ all_pages c.args.plan.now = omega (arith, c.in_ok-pages.pages.ok.0) in
    record {
      lives_are = c.in_ok-live.ensures;
      clocks_are = c.in_ok-clocks.ensures;
      pages_are = c.in_ok-pages.ensures.parts;
      each_page = c.in_ok-pages.ensures.each;
      frames_are = c.in_ok-frames.ensures.parts;
      each_frame = c.in_ok-frames.ensures.each;
      links_are = c.in_ok-links.ensures ∙ (λ t. replicate (c.len.ensures t * pages t) 0);
    }

pub invariant_of-result : goal.invariant_of-result
invariant_of-result c = subst (λ (k : Plan). IsCore k c.in_ok-live.live.items c.in_ok-clocks.clocks.items c.in_ok-pages.pages.items c.in_ok-frames.frames.items c.in_ok-links.links.items) (sym c.in_ok-copy.ensures)
    (core_opening c.args.plan.now c.in_ok-live.live.items c.in_ok-clocks.clocks.items c.in_ok-pages.pages.items c.in_ok-frames.frames.items c.in_ok-links.links.items (cells_are c) c.requires.good)

pub returns-clause-shown : goal.returns-clause-shown
returns-clause-shown c = λ x. subst (λ (k : Plan). Shows x [] (cells_of k c.in_ok-live.live.items c.in_ok-clocks.clocks.items c.in_ok-pages.pages.items c.in_ok-frames.frames.items c.in_ok-links.links.items)) (sym c.in_ok-copy.ensures)
    (shows_opening c.args.plan.now c.in_ok-live.live.items c.in_ok-clocks.clocks.items c.in_ok-pages.pages.items c.in_ok-frames.frames.items c.in_ok-links.links.items (cells_are c) x)
