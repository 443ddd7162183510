use Rattle.std.proofs.Common.{◌≡◌, map}
use Rattle.std.specs.List.{range_with_len}
use Rattle.eleos_core.specs.Cells.{part_of_page}
use Rattle.eleos_core.specs.Opening.{ArePages, opening_page}
use Rattle.eleos_base.specs.Places.{page_counts}
use Rattle.eleos_base.specs.Runs.{first_of_run}
use Rattle.eleos_core.proofs.opening.pages.make_pages.Given as goal

-- the pages of the enclaves so far
abbrev pub invariant-loop-enclave : goal.invariant-loop-enclave
invariant-loop-enclave l = record {
  parts : map part_of_page l.pages.items ≡ map (opening_page l.plan) (range_with_len 0 (first_of_run (page_counts l.plan) l.enclave));
  each : ArePages l.pages.items;
}
