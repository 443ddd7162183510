-- The meaning of a text: its trace, or its first bad line with the reason.
use Rattle.std.specs.Prelude.{ℕ, ◌+◌, List, [], ◌∷◌, length, map, nat_le, Result, Ok, Err, codes, if◌then◌else◌}
use Rattle.std.specs.List.{slice_split}
use Rattle.eleos_trace.specs.declared.trace.Kind.{Kind}
use Rattle.eleos_trace.specs.declared.trace.Line.{Line}
use Rattle.eleos_trace.specs.declared.trace.Trace.{Trace}
use Rattle.eleos_texts.specs.declared.why.Why.TheVariants.{TooLarge, Cut}
use Rattle.eleos_texts.specs.declared.why.Bad.{Bad}
use Rattle.eleos_trace.specs.declared.seen.Seen.{Seen}
use Rattle.eleos_trace.specs.declared.header.Header.{Header}
use Rattle.eleos_texts.specs.Fields.{is, is_blank, is_newline}
use Rattle.eleos_texts.specs.Reasons.{at_line, ◌>>=◌}
use Rattle.eleos_texts.specs.Texts.{ended, most_text}
use Rattle.eleos_trace.specs.Seen.{nothing_seen, seen_after}
use Rattle.eleos_trace.specs.Lines.{line_of}
use Rattle.eleos_trace.specs.WholeHeader.{header_of, header_lines, machine_lines, plan_of}

-- the commands of these lines, the first of which has this number, after what was seen before; and the lines behind the end line
unfoldable pub commands_of : Header → ℕ → Seen → List (List ℕ) → Result (List Line × List (List ℕ)) Bad
commands_of header line seen [] = Err (record { line = line; why = Cut })
commands_of header line seen (text ∷ []) = Err (record { line = line; why = Cut })
commands_of header line seen (text ∷ next ∷ texts) = if is (codes "end") text then Ok ([], next ∷ texts) else do
  command ← at_line line (line_of header seen (slice_split is_blank text))
  others ← commands_of header (line + 1) (seen_after seen command) (next ∷ texts)
  Ok (command ∷ others.0, others.1)

-- the trace with this header and these commands
abbrev pub trace_with : Header → List Line → Trace
trace_with header lines = record { kind = header.kind; plan = plan_of header; key = header.key; names = map (λ named. named.name) header.blocks; lines = lines }

-- the lines of a trace's text, of its header and its commands, and the end line
abbrev pub line_count : Trace → ℕ
line_count trace = machine_lines trace.plan + length trace.plan.blocks + length trace.lines + 3

-- the trace of this kind that these lines begin with, and the lines behind its end line
unfoldable pub lines_of : Kind → List (List ℕ) → Result (Trace × List (List ℕ)) Bad
lines_of kind texts = do
  header ← header_of kind texts
  lines ← commands_of header.0 (header_lines header.0 + 1) (nothing_seen header.0) header.1
  Ok (trace_with header.0 lines.0, lines.1)

-- the trace of this kind that a text begins with, and the lines behind its end line
unfoldable pub prefix_of : Kind → List ℕ → Result (Trace × List (List ℕ)) Bad
prefix_of kind input = if nat_le (length input) most_text then lines_of kind (slice_split is_newline input) else Err (record { line = 0; why = TooLarge })

-- the trace of this kind that a text is, with nothing behind its end line
unfoldable pub trace_of : Kind → List ℕ → Result Trace Bad
trace_of kind input = do
  found ← prefix_of kind input
  none ← ended (line_count found.0 + 1) found.1
  Ok found.0
