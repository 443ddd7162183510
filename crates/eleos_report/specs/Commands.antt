-- Commands by their words.
use Rattle.std.specs.Prelude.{ℕ, List, Bool, true, false, not, Option, Some, None, Result, Ok, Err, codes, if◌then◌else◌}
use Rattle.eleos_texts.specs.declared.why.Why.{Why}
use Rattle.eleos_texts.specs.declared.why.Why.TheVariants.{Form}
use Rattle.eleos_trace.specs.declared.word.Actor.{Actor}
use Rattle.eleos_trace.specs.declared.word.Word.{Word}
use Rattle.eleos_trace.specs.declared.word.Word.TheVariants.{Alloc, Free, Share, Read, Write, Tie, Untie, Fill, Evict, Move, Flip, SwapPlaces, Keep, Restore, SwapRound, SetShare, Call}
use Rattle.eleos_texts.specs.Fields.{is, most_u32}
use Rattle.eleos_texts.specs.Reasons.{with_one, with_two, with_three, with_one_and_more, ◌>>=◌}
use Rattle.eleos_trace.specs.Actors.{is_host}
use Rattle.eleos_trace.specs.Calls.{call_named, with_call}
use Rattle.eleos_trace.specs.declared.trace.Kind.{Kind}
use Rattle.eleos_trace.specs.declared.trace.Kind.TheVariants.{Run, Replay}
use Rattle.eleos_report.specs.Fields.{formed, number_of, name_of, bytes_of, optional_of}

-- the command of this actor stands in logs of this kind
abbrev pub is_command : Kind → Actor → Word → Bool
is_command Run who (Tie name offset) = false
is_command Run who (Untie name offset) = false
is_command Run who (SwapPlaces a b) = is_host who
is_command Run who (SwapRound enclave low) = not (is_host who)
is_command Replay who (SwapRound enclave low) = false
is_command Replay who (SetShare enclave to) = false
is_command Replay who (Call call bytes room) = false
is_command kind who command = true

-- by `swap` this actor means a round of the swapper
abbrev pub means_round : Kind → Actor → Bool
means_round Run who = not (is_host who)
means_round Replay who = false

-- what it means by `swap` with these numbers
abbrev pub swap_word : Kind → Actor → ℕ → ℕ → Word
swap_word kind who a b = if means_round kind who then SwapRound a b else SwapPlaces a b

-- one of both owners is the pool, which is none, and the other an enclave
abbrev pub is_move : Option ℕ → Option ℕ → Bool
is_move None (Some to) = true
is_move (Some from) None = true
is_move from to = false

-- a name
abbrev pub name_alone : List (List ℕ) → Result (List ℕ) Why
name_alone = with_one name_of

-- a name and a number
abbrev pub name_and_number : List (List ℕ) → Result (List ℕ × ℕ) Why
name_and_number = with_two (λ name n. (do
  name ← name_of name
  n ← number_of most_u32 n
  Ok (name, n)))

-- a number
abbrev pub number_alone : List (List ℕ) → Result ℕ Why
number_alone = with_one (number_of most_u32)

-- two numbers
abbrev pub two_numbers : List (List ℕ) → Result (ℕ × ℕ) Why
two_numbers = with_two (λ a b. (do
  a ← number_of most_u32 a
  b ← number_of most_u32 b
  Ok (a, b)))

-- `read NAME OFFSET N`
abbrev pub read_of : List (List ℕ) → Result Word Why
read_of = with_three (λ name offset len. (do
  name ← name_of name
  offset ← number_of most_u32 offset
  len ← number_of most_u32 len
  Ok (Read name offset len)))

-- `write NAME OFFSET HEX`
abbrev pub write_of : List (List ℕ) → Result Word Why
write_of = with_three (λ name offset hex. (do
  name ← name_of name
  offset ← number_of most_u32 offset
  bytes ← bytes_of hex
  Ok (Write name offset bytes)))

-- `call WORD HEX ROOM`
abbrev pub call_of : List (List ℕ) → Result Word Why
call_of = with_three (λ word hex room. with_call (call_named word) (λ call. (do
  bytes ← bytes_of hex
  room ← number_of most_u32 room
  Ok (Call call bytes room))))

-- `move FRAME FROM TO`
abbrev pub move_of : List (List ℕ) → Result Word Why
move_of = with_three (λ frame from to. (do
  frame ← number_of most_u32 frame
  from ← optional_of most_u32 from
  to ← optional_of most_u32 to
  formed (is_move from to) (Move frame from to)))

module _ (kind : Kind) (who : Actor) (verb : List ℕ) (args : List (List ℕ)) where
  -- what the host does with its places, or a round of the swapper
  abbrev pub host_command_of : Result Word Why
  host_command_of =
      if is (codes "flip") verb then (two_numbers args >>= λ x. Ok (Flip x.0 x.1))
      else if is (codes "swap") verb then (two_numbers args >>= λ x. Ok (swap_word kind who x.0 x.1))
      else if is (codes "keep") verb then (number_alone args >>= λ place. Ok (Keep place))
      else if is (codes "restore") verb then (number_alone args >>= λ place. Ok (Restore place))
      else Err Form

  -- what happens to pages and frames, or one of those
  abbrev pub frame_command_of : Result Word Why
  frame_command_of =
      if is (codes "tie") verb then (name_and_number args >>= λ x. Ok (Tie x.0 x.1))
      else if is (codes "untie") verb then (name_and_number args >>= λ x. Ok (Untie x.0 x.1))
      else if is (codes "fill") verb then (two_numbers args >>= λ x. Ok (Fill x.0 x.1))
      else if is (codes "evict") verb then (two_numbers args >>= λ x. Ok (Evict x.0 x.1))
      else if is (codes "move") verb then move_of args
      else if is (codes "balloon") verb then (two_numbers args >>= λ x. Ok (SetShare x.0 x.1))
      else host_command_of

  -- what a caller does with its memory, or asks of the host, or one of those
  abbrev pub command_of : Result Word Why
  command_of =
      if is (codes "alloc") verb then (name_and_number args >>= λ x. Ok (Alloc x.0 x.1))
      else if is (codes "free") verb then (name_alone args >>= λ name. Ok (Free name))
      else if is (codes "share") verb then (name_alone args >>= λ name. Ok (Share name))
      else if is (codes "read") verb then read_of args
      else if is (codes "write") verb then write_of args
      else if is (codes "call") verb then call_of args
      else frame_command_of

-- a command of this actor in a log of this kind
abbrev pub command_in : Kind → Actor → List (List ℕ) → Result Word Why
command_in kind who words = with_one_and_more (command_of kind who) words >>= λ command. formed (is_command kind who command) command
