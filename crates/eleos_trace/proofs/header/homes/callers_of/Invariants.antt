use Rattle.std.proofs.Common.{◌≡◌, ◌+◌, ◌≤◌, length, codes}
use Rattle.std.specs.List.{slice_split}
use Rattle.eleos_texts.specs.Fields.{is_newline}
use Rattle.eleos_trace.specs.Homes.{caller_line, AreGoodCallers}
use Rattle.eleos_trace.specs.WholeHeader.{is_one_of, items_of, callers_of}
use Rattle.eleos_trace.proofs.header.homes.callers_of.Given as goal

-- the callers so far, behind which the lines that are left give all
abbrev pub invariant-loop-callers : goal.invariant-loop-callers
invariant-loop-callers l = record {
  line : l.line ≡ l.first + length l.callers.items;
  good : AreGoodCallers l.enclaves l.callers.items;
  left : length l.rest ≤ length l.text;
  whole : items_of (is_one_of (codes "caller")) (caller_line l.enclaves) l.line l.callers.items (slice_split is_newline l.rest) ≡ callers_of l.enclaves l.first (slice_split is_newline l.text);
}

abbrev pub decreases-loop-callers : goal.decreases-loop-callers
decreases-loop-callers l = length l.rest
