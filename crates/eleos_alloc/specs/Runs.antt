-- Runs of the machine's sub-pages.
use Rattle.std.specs.Prelude.{ℕ, ◌+◌, ◌-◌, ◌*◌, ◌/◌, ◌<◌, ◌≤◌}
use Rattle.eleos_alloc.specs.declared.runs.Run.{Run}

-- it is not empty, and lies among the sub-pages of a machine of 4,096 pages
pub record IsGoodRun (run : Run) : Type 0 where
  pub some : 1 ≤ run.len
  pub within : run.start + run.len ≤ 16384

-- the page behind that of its last sub-page
abbrev pub end_of : Run → ℕ
end_of run = (run.start + run.len - 1) / 4 + 1

-- the page with this number has a sub-page of the run
pub record Touches (run : Run) (page : ℕ) : Type 0 where
  pub run_is : IsGoodRun run
  pub ends_behind : page * 4 < run.start + run.len
  pub begins_before : run.start < page * 4 + 4
