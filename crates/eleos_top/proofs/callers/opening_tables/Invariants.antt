use Rattle.std.proofs.Common.{◌≡◌, map, take}
use Rattle.eleos_meaning.specs.Names.{header_names}
use Rattle.eleos_top.specs.Scenes.{all_names}
use Rattle.eleos_top.proofs.callers.opening_tables.Given as goal

-- the callers so far have theirs
abbrev pub invariant-loop-home : goal.invariant-loop-home
invariant-loop-home l = all_names l.callers.items ≡ map (header_names l.trace) (take l.home-index l.home-items)
