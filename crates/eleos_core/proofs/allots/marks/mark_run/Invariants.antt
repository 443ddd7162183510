use Rattle.std.proofs.Common.{◌≡◌, map}
use Rattle.eleos_core.specs.Allots.{KeepsPages, run_marked}
use Rattle.eleos_core.specs.Cells.{part_of_page}
use Rattle.eleos_core.proofs.allots.marks.mark_run.Given as goal

-- so many sub-pages are marked so far
abbrev pub invariant-loop-i : goal.invariant-loop-i
invariant-loop-i l = record {
  parts : map part_of_page l.pages ≡ run_marked l.mark l.first l.i (map part_of_page l.fn.pages);
  keeps : KeepsPages l.fn.pages l.pages;
}
