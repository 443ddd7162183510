use Rattle.std.proofs.Common.{◌≡◌, ◌+◌, ◌≤◌, length, codes}
use Rattle.std.specs.List.{slice_split}
use Rattle.eleos_texts.specs.Fields.{is_newline}
use Rattle.eleos_trace.specs.Homes.{enclave_line, AreGoodEnclaves}
use Rattle.eleos_trace.specs.WholeHeader.{is_one_of, items_of, enclaves_of}
use Rattle.eleos_trace.proofs.header.homes.enclaves_of.Given as goal

-- the enclaves so far, behind which the lines that are left give all
abbrev pub invariant-loop-enclaves : goal.invariant-loop-enclaves
invariant-loop-enclaves l = record {
  line : l.line ≡ l.first + length l.enclaves.items;
  good : AreGoodEnclaves l.enclaves.items;
  left : length l.rest ≤ length l.text;
  whole : items_of (is_one_of (codes "enclave")) enclave_line l.line l.enclaves.items (slice_split is_newline l.rest) ≡ enclaves_of l.first (slice_split is_newline l.text);
}

abbrev pub decreases-loop-enclaves : goal.decreases-loop-enclaves
decreases-loop-enclaves l = length l.rest
