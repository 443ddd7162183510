use Rattle.std.proofs.Common.{◌-◌}
use Rattle.eleos_alloc.specs.Runs.{end_of}
use Rattle.eleos_alloc.proofs.holding.+stamp_with_pages.Given as goal

-- the pages that are still to be taken
abbrev pub decreases-stamp_with_pages : goal.decreases-stamp_with_pages
decreases-stamp_with_pages g l = end_of l.run - l.page
