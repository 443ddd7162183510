use Rattle.std.proofs.Common.{◌≡◌, ◌-◌}
use Rattle.eleos_core.specs.Allots.{IsWholePage, KeepsPage, page_marked}
use Rattle.eleos_core.specs.Cells.{part_of_page}
use Rattle.eleos_alloc.proofs.pages.mark_page.Given as goal

-- those before are marked
abbrev pub invariant-loop-sub : goal.invariant-loop-sub
invariant-loop-sub l = record {
  part : part_of_page l.page ≡ page_marked l.fn.mark l.low (l.sub - l.low) l.fn.number (part_of_page l.fn.page);
  keeps : KeepsPage l.fn.page l.page;
  whole : IsWholePage l.page;
}
