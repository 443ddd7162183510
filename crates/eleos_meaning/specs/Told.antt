-- What the lines of one actor tell.
use Rattle.std.specs.Prelude.{ℕ, List, [], ◌∷◌, ◌++◌, Option, Some, None}
use Rattle.eleos_base.specs.declared.memory.Looked.{Looked}
use Rattle.eleos_base.specs.declared.memory.Reply.{Reply}
use Rattle.eleos_base.specs.declared.memory.Reply.TheVariants.{Done, Enough, Swept, Reached, Pinned, Short}
use Rattle.eleos_core.specs.Parts.{Made}
use Rattle.eleos_core.specs.declared.event.Entry.{Entry}
use Rattle.eleos_core.specs.declared.event.Event.{Event}
use Rattle.eleos_core.specs.declared.event.Event.TheVariants.{Evict, Survey}
use Rattle.eleos_report.specs.declared.answer.Answer.{Answer}
use Rattle.eleos_report.specs.declared.answer.Answer.TheVariants as answers
use Rattle.eleos_report.specs.declared.line.LogLine.{LogLine}
use Rattle.eleos_report.specs.declared.line.LogLine.TheVariants.{Said}
use Rattle.eleos_trace.specs.declared.word.Actor.{Actor}
use Rattle.eleos_trace.specs.declared.word.Word.{Word}
use Rattle.eleos_meaning.specs.Calls.{answer_of}

-- what a command came to: an entry, for which so many blocks were put, or a reply alone
pub data Came : Type 0 where
  Entered : Made → ℕ → Came
  Replied : Answer → Came

-- a line without its actor
pub record Told : Type 0 where
  pub word : Word
  pub came : Came

-- the line of this command, which came to this
abbrev pub told_as : Word → Came → Told
told_as word came = record { word = word; came = came }

-- the end of a round or of a change of a share, as it is printed with the words that were noted
abbrev pub survey_answer : Reply → List Looked → Answer
survey_answer (Enough free) sweep = answers.Enough free sweep
survey_answer (Swept free) sweep = answers.Swept free sweep
survey_answer (Reached share) sweep = answers.Reached share
survey_answer (Pinned share) sweep = answers.Pinned share sweep
survey_answer (Short share) sweep = answers.Short share sweep
survey_answer reply sweep = answer_of reply []

-- an entry as it is printed: an evict tells how many blocks were put, and a survey what was noted
abbrev pub event_answer : Event → Reply → List (List ℕ) → ℕ → Answer
event_answer (Evict page frame) Done blocks puts = answers.Put puts
event_answer (Survey enclave goal sweep) reply blocks puts = survey_answer reply sweep
event_answer event reply blocks puts = answer_of reply blocks

-- what is printed of an entry of the history for which so many blocks were put
abbrev pub entry_answer : Entry → ℕ → Answer
entry_answer e puts = event_answer e.event e.reply e.blocks puts

-- what stands before and behind the command
abbrev pub stamp_in : Came → Option ℕ
stamp_in (Entered one puts) = Some one.0
stamp_in (Replied reply) = None

-- what is printed behind the command: the reply of its entry, or the reply alone
abbrev pub answer_in : Came → Answer
answer_in (Entered one puts) = entry_answer one.1.entry puts
answer_in (Replied reply) = reply

-- the line of this actor
abbrev pub line_of : Actor → Told → LogLine
line_of who told = Said (stamp_in told.came) who told.word (answer_in told.came)

-- the entries
abbrev pub made_of : Came → List Made
made_of (Entered one puts) = one ∷ []
made_of (Replied reply) = []

-- the entries that all these lines tell, in order
abbrev pub made_in : List Told → List Made
made_in [] = []
made_in (one ∷ told) = made_of one.came ++ made_in told
