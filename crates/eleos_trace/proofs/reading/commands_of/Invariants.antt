use Rattle.std.proofs.Common.{◌≡◌, ◌+◌, ◌≤◌, length}
use Rattle.std.specs.Prelude.{All}
use Rattle.std.specs.List.{slice_split}
use Rattle.eleos_texts.specs.Fields.{is_newline}
use Rattle.eleos_trace.specs.WholeHeader.{header_lines, plan_of}
use Rattle.eleos_trace.specs.Reading.{commands_of}
use Rattle.eleos_trace.specs.Kinds.{MayGiveIn}
use Rattle.eleos_trace.specs.Seen.{nothing_seen}
use Rattle.eleos_trace.proofs.Steps.{with_front}
use Rattle.eleos_trace.proofs.reading.commands_of.Given as goal

-- the commands so far and what the lines that are left say are what all lines say
abbrev pub invariant-loop-front : goal.invariant-loop-front
invariant-loop-front l = record {
  line : l.line + length l.rest ≤ length l.text + 1000;
  room : l.seen.commands ≤ 100000;
  rounds : l.seen.rounds ≤ l.seen.commands;
  count : length l.lines.items ≡ l.seen.commands;
  given : All (λ line. MayGiveIn l.header.kind (plan_of l.header) line.actor line.command) l.lines.items;
  whole : with_front l.lines.items (commands_of l.header l.line l.seen (slice_split is_newline l.rest)) ≡ commands_of l.header (header_lines l.header + 1) (nothing_seen l.header) (slice_split is_newline l.text);
}

abbrev pub decreases-loop-front : goal.decreases-loop-front
decreases-loop-front l = length l.rest
