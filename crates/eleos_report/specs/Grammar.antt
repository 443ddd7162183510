-- The lists of lines that a log may have.
use Rattle.std.specs.Prelude.{◌≡◌, ℕ, ◌^◌, ◌<◌, ◌≤◌, List, [], ◌∷◌, length, true, false, Option, IfSome}
use Rattle.std.specs.List.{AllByRecursion}
use Rattle.hex.specs.Hex.{IsBytes}
use Rattle.eleos_base.specs.declared.memory.Looked.{Looked}
use Rattle.eleos_trace.specs.declared.word.Actor as actors
use Rattle.eleos_trace.specs.declared.word.Actor.TheVariants.{Caller, Swapper, Balloon, Host}
use Rattle.eleos_trace.specs.declared.word.Word.{Word}
use Rattle.eleos_trace.specs.declared.word.Word.TheVariants.{Alloc, Free, Share, Read, Write, Tie, Untie, Fill, Evict, Move, Flip, SwapPlaces, Keep, Restore, SwapRound, SetShare, Call}
use Rattle.eleos_texts.specs.Fields.{is_name}
use Rattle.eleos_trace.specs.declared.trace.Kind.{Kind}
use Rattle.eleos_report.specs.declared.answer.Answer.{Answer}
use Rattle.eleos_report.specs.declared.answer.Answer.TheVariants.{At, Okay, Got, Put, BadSize, NoSpace, NotABlock, NotYours, BadRange, Unallocated, Worn, Tampered, NoFrame, Enough, Swept, Reached, Short, Pinned, Illegal, Replied, WrongId, TooLong, BadStatus, Nothing, Skipped}
use Rattle.eleos_report.specs.declared.line.LogLine.{LogLine}
use Rattle.eleos_report.specs.declared.line.LogLine.TheVariants.{Said, End}
use Rattle.eleos_report.specs.Fields.{block_bytes}
use Rattle.eleos_report.specs.Commands.{is_command, is_move}
use Rattle.eleos_report.specs.Answers.{is_reply}
use Rattle.eleos_report.specs.Log.{is_last}

-- a number of 32 bits
abbrev pub IsShort : ℕ → Type 0
IsShort n = n < 2 ^ 32

-- a number of 64 bits
abbrev pub IsLong : ℕ → Type 0
IsLong n = n < 2 ^ 64

-- a letter and then at most 15 letters or digits
abbrev pub IsName : List ℕ → Type 0
IsName name = is_name name ≡ true

-- one of the callers 1 to 8, or another actor
abbrev pub IsWho : actors.Actor → Type 0
IsWho (Caller number) = (1 ≤ number) × (number ≤ 8)
IsWho Swapper = Unit {0}
IsWho Balloon = Unit {0}
IsWho Host = Unit {0}

-- the numbers, names and bytes of a command
abbrev pub HasFields : Word → Type 0
HasFields (Alloc name bytes) = IsName name × IsShort bytes
HasFields (Free name) = IsName name
HasFields (Share name) = IsName name
HasFields (Read name offset len) = IsName name × IsShort offset × IsShort len
HasFields (Write name offset bytes) = IsName name × IsShort offset × IsBytes bytes
HasFields (Tie name offset) = IsName name × IsShort offset
HasFields (Untie name offset) = IsName name × IsShort offset
HasFields (Fill page frame) = IsShort page × IsShort frame
HasFields (Evict page frame) = IsShort page × IsShort frame
HasFields (Move frame from to) = IsShort frame × IfSome from IsShort × IfSome to IsShort × (is_move from to ≡ true)
HasFields (Flip place bit) = IsShort place × IsShort bit
HasFields (SwapPlaces a b) = IsShort a × IsShort b
HasFields (Keep place) = IsShort place
HasFields (Restore place) = IsShort place
HasFields (SwapRound enclave low) = IsShort enclave × IsShort low
HasFields (SetShare enclave to) = IsShort enclave × IsShort to
HasFields (Call call bytes room) = IsBytes bytes × IsShort room

-- the bytes of a block
abbrev pub IsBlock : List ℕ → Type 0
IsBlock block = IsBytes block × (length block ≡ block_bytes)

-- a frame and its word
abbrev pub IsLooked : Looked → Type 0
IsLooked looked = IsShort looked.frame × IsLong looked.word

-- the numbers and bytes of a reply
abbrev pub HasParts : Answer → Type 0
HasParts (At at) = IsShort at
HasParts Okay = Unit {0}
HasParts (Got bytes) = IsBytes bytes
HasParts (Put count) = IsShort count
HasParts BadSize = Unit {0}
HasParts NoSpace = Unit {0}
HasParts NotABlock = Unit {0}
HasParts (NotYours owner) = IsShort owner
HasParts BadRange = Unit {0}
HasParts Unallocated = Unit {0}
HasParts (Worn sub) = IsShort sub
HasParts (Tampered sub block) = IsShort sub × IfSome block IsBlock
HasParts (NoFrame sweep) = AllByRecursion IsLooked sweep
HasParts (Enough free sweep) = IsShort free × AllByRecursion IsLooked sweep
HasParts (Swept free sweep) = IsShort free × AllByRecursion IsLooked sweep
HasParts (Reached share) = IsShort share
HasParts (Short share sweep) = IsShort share × AllByRecursion IsLooked sweep
HasParts (Pinned share sweep) = IsShort share × AllByRecursion IsLooked sweep
HasParts (Illegal part) = Unit {0}
HasParts (Replied status bytes) = IsLong status × IsBytes bytes
HasParts (WrongId seen) = IsLong seen
HasParts (TooLong seen) = IsLong seen
HasParts (BadStatus seen) = IsLong seen
HasParts Nothing = Unit {0}
HasParts Skipped = Unit {0}

-- a command and a reply of the kind, with any stamp
pub record Stands (kind : Kind) (stamp : Option ℕ) (actor : actors.Actor) (command : Word) (reply : Answer) : Type 0 where
  pub stamp_fits : IfSome stamp IsLong
  pub actor_is : IsWho actor
  pub command_is : is_command kind actor command ≡ true
  pub command_has : HasFields command
  pub reply_is : is_reply kind reply ≡ true
  pub reply_has : HasParts reply

-- a line of logs of this kind
abbrev pub IsLine : Kind → LogLine → Type 0
IsLine kind (Said stamp actor command reply) = Stands kind stamp actor command reply
IsLine kind (End count) = IsLong count

-- the lines of a log of this kind, of which the last one ends it, and no other
abbrev pub IsLog : Kind → List LogLine → Type 0
IsLog kind [] = ⊥
IsLog kind (line ∷ []) = IsLine kind line × (is_last line ≡ true)
IsLog kind (line ∷ next ∷ lines) = IsLine kind line × (is_last line ≡ false) × IsLog kind (next ∷ lines)
