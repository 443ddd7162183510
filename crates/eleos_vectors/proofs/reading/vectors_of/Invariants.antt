use Rattle.std.proofs.Common.{◌≡◌, ◌+◌, ◌≤◌, length}
use Rattle.std.specs.List.{slice_split}
use Rattle.eleos_texts.specs.Fields.{is_newline}
use Rattle.eleos_vectors.specs.Vectors.{vectors_of}
use Rattle.eleos_vectors.proofs.Lines.{with_front}
use Rattle.eleos_vectors.proofs.reading.vectors_of.Given as goal

-- the vectors so far and what the lines that are left say are what all lines say
abbrev pub invariant-loop-front : goal.invariant-loop-front
invariant-loop-front l = record {
  count : l.line + length l.rest ≤ length l.text + 1;
  whole : with_front l.vectors.items (vectors_of l.line (slice_split is_newline l.rest)) ≡ vectors_of 1 (slice_split is_newline l.text);
}

abbrev pub decreases-loop-front : goal.decreases-loop-front
decreases-loop-front l = length l.rest
