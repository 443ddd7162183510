-- The table of calls.
use Rattle.std.specs.Prelude.{◌≡◌, ℕ, ◌≤◌, List, [], length, take, Option}
use Rattle.eleos_words.specs.declared.layout.TheConstants.{MOST_BYTES}
use Rattle.eleos_work.specs.declared.table.Answered.{Answered}
use Rattle.eleos_work.specs.Calls.{TableReply, reply_to, state_after}
use Rattle.eleos_work.specs.States.{TableState}

-- nothing is kept, and no job was done
abbrev pub no_entries : TableState
no_entries = record { kept = []; done = 0 }

-- an answer without bytes
abbrev pub bare : ℕ → Answered
bare status = record { status = status; length = 0 }

-- the answer and the first bytes of the buffer are this reply
pub record IsReply (r : TableReply) (answered : Answered) (buf : List ℕ) : Type 0 where
  pub status : answered.status ≡ r.status
  pub bytes : take answered.length buf ≡ r.bytes
  pub count : answered.length ≡ length r.bytes
  pub fits : answered.length ≤ MOST_BYTES

-- the table replied to the job, and is what the job left
pub record AnswersBy (before after : TableState) (number : ℕ) (text : Option (List ℕ)) (answered : Answered) (buf : List ℕ) : Type 0 where
  pub replies : IsReply (reply_to before number text) answered buf
  pub after_job : after ≡ state_after before number text
