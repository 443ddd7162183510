-- Calls of the host, with the reasons for which a line is refused.
use Rattle.std.specs.Prelude.{ℕ, List, [], ◌∷◌, length, ◌&&◌, nat_le, Option, Some, None, Result, Ok, Err, codes, if◌then◌else◌}
use Rattle.eleos_trace.specs.declared.givers.Givers.{Givers}
use Rattle.eleos_trace.specs.declared.header.Header.{Header}
use Rattle.eleos_trace.specs.declared.seen.Seen.{Seen}
use Rattle.eleos_trace.specs.declared.word.Actor as actors
use Rattle.eleos_trace.specs.declared.word.CallWord.{CallWord}
use Rattle.eleos_trace.specs.declared.word.CallWord.TheVariants.{Echo, Put, Get, Cut, Clock}
use Rattle.eleos_trace.specs.declared.word.Word.{Word}
use Rattle.eleos_trace.specs.declared.word.Word.TheVariants.{Call}
use Rattle.eleos_texts.specs.declared.why.Why.{Why}
use Rattle.eleos_texts.specs.declared.why.Why.TheVariants.{Form, Range}
use Rattle.eleos_texts.specs.Fields.{is, is_numeral, number, is_up_to, is_hex, bytes_in}
use Rattle.eleos_texts.specs.Reasons.{unless, with_three, ◌>>=◌}
use Rattle.eleos_trace.specs.Givers.{admit}

-- bytes of a call, and of the room for its reply
abbrev pub most_call : ℕ
most_call = 1024

-- the word of a call
abbrev pub call_text : CallWord → List ℕ
call_text Echo = codes "echo"
call_text Put = codes "put"
call_text Get = codes "get"
call_text Cut = codes "cut"
call_text Clock = codes "clock"

-- the call that has the word
abbrev pub call_named : List ℕ → Option CallWord
call_named word =
    if is (codes "echo") word then Some Echo
    else if is (codes "put") word then Some Put
    else if is (codes "get") word then Some Get
    else if is (codes "cut") word then Some Cut
    else if is (codes "clock") word then Some Clock
    else None

-- what is made of the call that a word names; a line that names none is of no form
abbrev pub with_call : {A : Type 0} → Option CallWord → (CallWord → Result A Why) → Result A Why
with_call None f = Err Form
with_call (Some call) f = f call

module _ (header : Header) (seen : Seen) (who : actors.Actor) (may : Givers) where
  -- `call WORD HEX ROOM`
  abbrev pub call_of : List (List ℕ) → Result Word Why
  call_of = with_three (λ word hex room. with_call (call_named word) (λ call. admit header seen who may (is_hex hex && is_numeral room) >>= λ _. unless (
      (nat_le (length (bytes_in hex)) most_call && is_up_to most_call room, Range) ∷ [])
      (Call call (bytes_in hex) (number room))))
