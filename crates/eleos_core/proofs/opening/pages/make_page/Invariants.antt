use Rattle.std.proofs.Common.{◌≡◌, map}
use Rattle.std.specs.List.{range_with_len}
use Rattle.eleos_core.specs.Opening.{sub_among}
use Rattle.eleos_core.proofs.opening.pages.make_page.Given as goal

-- so many sub-pages so far
abbrev pub invariant-loop-i : goal.invariant-loop-i
invariant-loop-i l = l.subs.items ≡ map (sub_among l.cell) (range_with_len l.first l.i)
