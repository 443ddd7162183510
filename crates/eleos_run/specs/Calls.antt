-- What the lines of a log show of calls of the host.
use Rattle.std.specs.Prelude.{◌≡◌, ℕ, ◌+◌, List, [], ◌∷◌, Bool, false, filter, replicate, take, Some}
use Rattle.eleos_report.specs.declared.answer.Answer.{Answer}
use Rattle.eleos_report.specs.declared.answer.Answer.TheVariants as answers
use Rattle.eleos_report.specs.declared.line.LogLine.{LogLine}
use Rattle.eleos_report.specs.declared.line.LogLine.TheVariants.{Said, End}
use Rattle.eleos_ring.specs.declared.accept.RingWhy.{RingWhy}
use Rattle.eleos_ring.specs.declared.accept.RingWhy.TheVariants.{WrongId, TooLong, BadStatus}
use Rattle.eleos_ring.specs.declared.call.Called.{Called}
use Rattle.eleos_ring.specs.declared.call.Called.TheVariants.{Refused, Reply}
use Rattle.eleos_ring.specs.Calls.{IsAnswered}
use Rattle.eleos_ring.specs.Rings.{idle}
use Rattle.eleos_trace.specs.declared.word.Actor.{Actor}
use Rattle.eleos_trace.specs.declared.word.Actor.TheVariants.{Caller}
use Rattle.eleos_trace.specs.declared.word.CallWord.{CallWord}
use Rattle.eleos_trace.specs.declared.word.CallWord.TheVariants as calls
use Rattle.eleos_trace.specs.declared.word.Word.{Word}
use Rattle.eleos_trace.specs.declared.word.Word.TheVariants.{Call}
use Rattle.eleos_work.specs.declared.calls.HostCall.{HostCall}
use Rattle.eleos_work.specs.declared.calls.HostCall.TheVariants.{Echo, Put, Get, Cut, Clock}
use Rattle.eleos_work.specs.Numbers.{call_of}
use Rattle.eleos_meaning.specs.Table.{Shown}
use Rattle.eleos_run.specs.Lines.{is_same_actor}

-- the call of the host's table that a command names
abbrev pub host_call : CallWord → HostCall
host_call calls.Echo = Echo
host_call calls.Put = Put
host_call calls.Get = Get
host_call calls.Cut = Cut
host_call calls.Clock = Clock

-- how a reply is printed that is refused
abbrev pub refusal_answer : RingWhy → ℕ → Answer
refusal_answer WrongId seen = answers.WrongId seen
refusal_answer TooLong seen = answers.TooLong seen
refusal_answer BadStatus seen = answers.BadStatus seen

-- what is printed behind a call that came to this and left this buffer, at whose front the bytes of
-- a reply stand
abbrev pub called_answer : Called → List ℕ → Answer
called_answer (Reply len status) buffer = answers.Replied status (take len buffer)
called_answer (Refused why seen) buffer = refusal_answer why seen

-- the command is no call of the host
abbrev pub IsNoCall : Word → Type 0
IsNoCall (Call call bytes room) = ⊥
IsNoCall _ = Unit {0}

-- how many calls a client has made behind this command, before which it made so many
abbrev pub calls_after : ℕ → Word → ℕ
calls_after made (Call call bytes room) = made + 1
calls_after made _ = made

-- the same behind all these commands
abbrev pub calls_in : ℕ → List Shown → ℕ
calls_in made [] = made
calls_in made (one ∷ rest) = calls_in (calls_after made one.0) rest

-- the commands of these lines, in order, with what is printed behind them
abbrev pub shown_in : List LogLine → List Shown
shown_in [] = []
shown_in (Said stamp actor word reply ∷ lines) = (word, reply) ∷ shown_in lines
shown_in (End count ∷ lines) = shown_in lines

-- the line is of this actor
abbrev pub is_line_of : Actor → LogLine → Bool
is_line_of who (Said stamp actor word reply) = is_same_actor actor who
is_line_of who (End count) = false

-- the lines of this actor, in order
abbrev pub lines_by : Actor → List LogLine → List LogLine
lines_by who lines = filter (is_line_of who) lines

module _ (shown written : ℕ → ℕ → Type 0) where
  -- The reply to a call of a client that made so many before, with these bytes and this buffer:
  -- what `accept` gives of one word for each field, for the job of the next number. Each of these
  -- words, and each of those of the bytes, was shown in the client's first cell, and the words of
  -- the job were written there.
  pub record IsCallReply (client made : ℕ) (call : CallWord) (bytes buffer : List ℕ) (reply : Answer) : Type 0 where
    pub number : ℕ
    pub named : call_of number ≡ Some (host_call call)
    pub called : Called
    pub left : List ℕ
    pub answered : IsAnswered shown written (idle client made) 0 number bytes buffer left called
    pub reply_is : reply ≡ called_answer called left

  -- where the command is a call, its reply is the host's; its room is a buffer of zeros
  abbrev pub IsCalled : ℕ → ℕ → Word → Answer → Type 0
  IsCalled client made (Call call bytes room) reply = IsCallReply client made call bytes (replicate room 0) reply
  IsCalled client made _ reply = Unit {0}

  -- of a client that made so many calls before, each call among these commands has its reply
  abbrev pub AreCalled : ℕ → ℕ → List Shown → Type 0
  AreCalled client made [] = Unit {0}
  AreCalled client made (one ∷ rest) = IsCalled client made one.0 one.1 × AreCalled client (calls_after made one.0) rest

  -- in this log the k-th call of each caller has its reply, that to the caller's k-th job
  abbrev pub AllCalled : List LogLine → Type 0
  AllCalled log = (client : ℕ) → AreCalled client 0 (shown_in (lines_by (Caller (client + 1)) log))
