use Rattle.std.proofs.Common.{◌≡◌, ◌++◌, map}
use Rattle.eleos_core.specs.Cells.{part_of_page}
use Rattle.eleos_core.specs.Opening.{ArePages, pages_among}
use Rattle.eleos_core.proofs.opening.pages.add_pages.Given as goal

-- so many pages were added so far
abbrev pub invariant-loop-page : goal.invariant-loop-page
invariant-loop-page l = record {
  parts : map part_of_page l.pages.items ≡ map part_of_page l.fn.pages.items ++ pages_among l.cell l.page;
  each : ArePages l.fn.pages.items → ArePages l.pages.items;
}
