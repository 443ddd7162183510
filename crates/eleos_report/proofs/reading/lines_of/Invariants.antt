use Rattle.std.proofs.Common.{◌≡◌, ◌+◌, ◌≤◌, length}
use Rattle.std.specs.List.{slice_split}
use Rattle.eleos_texts.specs.Fields.{is_newline}
use Rattle.eleos_report.specs.Reading.{lines_of}
use Rattle.eleos_report.proofs.Steps.{with_front}
use Rattle.eleos_report.proofs.reading.lines_of.Given as goal

-- the lines so far and what is left of the text say what all of it says
abbrev pub invariant-loop-front : goal.invariant-loop-front
invariant-loop-front l = record {
  number : l.number + length l.rest ≤ l.first + length l.text;
  whole : with_front l.lines.items (lines_of l.kind l.number (slice_split is_newline l.rest)) ≡ lines_of l.kind l.first (slice_split is_newline l.text);
}

abbrev pub decreases-loop-front : goal.decreases-loop-front
decreases-loop-front l = length l.rest
