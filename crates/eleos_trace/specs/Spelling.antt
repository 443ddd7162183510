-- The printed spelling of commands.
use Rattle.std.specs.Prelude.{ℕ, List, [], ◌∷◌, ◌++◌, Option, Some, None, codes}
use Rattle.std.specs.List.{join_with_byte}
use Rattle.std.specs.Fmt.{decimal}
use Rattle.eleos_texts.specs.Texts.{hex_text}
use Rattle.eleos_trace.specs.declared.trace.Kind.{Kind}
use Rattle.eleos_trace.specs.declared.trace.Kind.TheVariants.{Run, Replay}
use Rattle.eleos_trace.specs.declared.word.Actor as actors
use Rattle.eleos_trace.specs.declared.word.Actor.TheVariants.{Caller, Swapper, Balloon, Host}
use Rattle.eleos_trace.specs.declared.word.Word.{Word}
use Rattle.eleos_trace.specs.declared.word.Word.TheVariants.{Alloc, Free, Share, Read, Write, Tie, Untie, Fill, Evict, Move, Flip, SwapPlaces, Keep, Restore, SwapRound, SetShare, Call}
use Rattle.eleos_trace.specs.Calls.{call_text}

-- a kind of trace
abbrev pub kind_text : Kind → List ℕ
kind_text Run = codes "run"
kind_text Replay = codes "replay"

-- an enclave by its number, where a dash stands for the pool
abbrev pub owner_text : Option ℕ → List ℕ
owner_text None = codes "-"
owner_text (Some enclave) = decimal enclave

-- a command word by word
abbrev pub fields : Word → List (List ℕ)
fields (Alloc name bytes) = codes "alloc" ∷ name ∷ decimal bytes ∷ []
fields (Free name) = codes "free" ∷ name ∷ []
fields (Share name) = codes "share" ∷ name ∷ []
fields (Read name offset len) = codes "read" ∷ name ∷ decimal offset ∷ decimal len ∷ []
fields (Write name offset bytes) = codes "write" ∷ name ∷ decimal offset ∷ hex_text bytes ∷ []
fields (Tie name offset) = codes "tie" ∷ name ∷ decimal offset ∷ []
fields (Untie name offset) = codes "untie" ∷ name ∷ decimal offset ∷ []
fields (Fill page frame) = codes "fill" ∷ decimal page ∷ decimal frame ∷ []
fields (Evict page frame) = codes "evict" ∷ decimal page ∷ decimal frame ∷ []
fields (Move frame from to) = codes "move" ∷ decimal frame ∷ owner_text from ∷ owner_text to ∷ []
fields (Flip place bit) = codes "flip" ∷ decimal place ∷ decimal bit ∷ []
fields (SwapPlaces a b) = codes "swap" ∷ decimal a ∷ decimal b ∷ []
fields (Keep place) = codes "keep" ∷ decimal place ∷ []
fields (Restore place) = codes "restore" ∷ decimal place ∷ []
fields (SwapRound enclave low) = codes "swap" ∷ decimal enclave ∷ decimal low ∷ []
fields (SetShare enclave to) = codes "balloon" ∷ decimal enclave ∷ decimal to ∷ []
fields (Call call bytes room) = codes "call" ∷ call_text call ∷ hex_text bytes ∷ decimal room ∷ []

-- a command, as `write a 0 41`
abbrev pub word_text : Word → List ℕ
word_text word = join_with_byte 32 (fields word)

-- an actor, as `c1`
abbrev pub actor_text : actors.Actor → List ℕ
actor_text (Caller number) = codes "c" ++ decimal number
actor_text Swapper = codes "s"
actor_text Balloon = codes "b"
actor_text Host = codes "h"
