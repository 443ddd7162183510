-- The lines of a replay's log.
use Rattle.std.specs.Prelude.{ℕ, List, [], ◌∷◌, ◌++◌, length, filter, Bool, true, false, Some, None}
use Rattle.std.specs.List.{flat_map}
use Rattle.eleos_base.specs.declared.memory.Reply.{Reply}
use Rattle.eleos_base.specs.declared.memory.Reply.TheVariants.{Done}
use Rattle.eleos_report.specs.declared.answer.Answer.TheVariants as printed
use Rattle.eleos_report.specs.declared.answer.Answer.{Answer as Printed}
use Rattle.eleos_report.specs.declared.line.LogLine.{LogLine}
use Rattle.eleos_report.specs.declared.line.LogLine.TheVariants as lines
use Rattle.eleos_report.specs.Log.{line_text}
use Rattle.eleos_meaning.specs.Calls.{answer_of}
use Rattle.eleos_trace.specs.declared.trace.Line.{Line}
use Rattle.eleos_trace.specs.declared.word.Word.{Word}
use Rattle.eleos_trace.specs.declared.word.Word.TheVariants.{Evict}
use Rattle.eleos_top.specs.declared.response.Response.{Response}
use Rattle.eleos_top.specs.declared.response.Response.TheVariants.{Skipped, Entered, Refused, Acted}

-- a command of a replay, and what it came to
pub record Said : Type 0 where
  pub line : Line
  pub answer : Response

-- the reply to a command that became an entry: an evict tells how many blocks were put, and no block that did not pass is told
abbrev pub evict_reply : Reply → ℕ → Printed
evict_reply Done puts = printed.Put puts
evict_reply reply puts = answer_of reply []

-- what is printed behind a command that became an entry; of an evict it is also how many blocks were put
abbrev pub entry_reply : Word → Reply → ℕ → Printed
entry_reply (Evict page frame) reply puts = evict_reply reply puts
entry_reply word reply puts = answer_of reply []

-- an act of the host, by whether it did anything
abbrev pub act_reply : Bool → Printed
act_reply true = printed.Okay
act_reply false = printed.Nothing

-- the line of a command that came to this
abbrev pub line_said : Line → Response → LogLine
line_said line Skipped = lines.Said None line.actor line.command printed.Skipped
line_said line (Entered stamp reply puts) = lines.Said (Some stamp) line.actor line.command (entry_reply line.command reply puts)
line_said line (Refused part) = lines.Said None line.actor line.command (printed.Illegal part)
line_said line (Acted is_done) = lines.Said None line.actor line.command (act_reply is_done)

-- the text of a command's line in the log of a replay
abbrev pub said_text : Said → List ℕ
said_text said = line_text (line_said said.line said.answer)

-- the lines, one after another
abbrev pub lines_text : List Said → List ℕ
lines_text lines = flat_map said_text lines

-- the answer is an entry
abbrev pub is_entry : Response → Bool
is_entry (Entered stamp reply puts) = true
is_entry _ = false

-- how many lines are entries
abbrev pub entries : List Said → ℕ
entries lines = length (filter (λ said. is_entry said.answer) lines)

-- the lines, and `end N` with the number of entries
abbrev pub replay_text : List Said → List ℕ
replay_text said = lines_text said ++ line_text (lines.End (entries said))
