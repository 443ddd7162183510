-- Tasks of an actor: its commands with their room.
use Rattle.std.specs.Prelude.{◌≡◌, ℕ, ◌≤◌, List, [], ◌∷◌, length, replicate, vec_capacity, IsTrue, Vec}
use Rattle.std.specs.declared.alloc.Global.{Global}
use Rattle.eleos_base.specs.declared.memory.Looked.{Looked}
use Rattle.eleos_base.specs.declared.plan.Plan.{Plan}
use Rattle.eleos_base.specs.Limits.{most_frames}
use Rattle.eleos_trace.specs.declared.word.Actor.{Actor}
use Rattle.eleos_trace.specs.Kinds.{MayRun}
use Rattle.eleos_trace.specs.declared.word.Word.{Word}
use Rattle.eleos_trace.specs.declared.word.Word.TheVariants.{Alloc, Free, Share, Read, Write, SwapRound, SetShare, Call}
use Rattle.eleos_run.specs.declared.tasks.Task.{Task}
use Rattle.eleos_meaning.specs.declared.names.NameTable.{NameTable}
use Rattle.eleos_meaning.specs.NameTable.{has_room}

-- a command that actors give in a run: their writes have at most 2,048 bytes, their calls at most
-- 1,024 and as much room, and a share that is asked for at most 512 frames
abbrev pub CanRun : Word → Type 0
CanRun (Alloc name bytes) = Unit {0}
CanRun (Free name) = Unit {0}
CanRun (Share name) = Unit {0}
CanRun (Read name offset len) = Unit {0}
CanRun (Write name offset bytes) = length bytes ≤ 2048
CanRun (SwapRound enclave low) = Unit {0}
CanRun (SetShare enclave to) = to ≤ most_frames
CanRun (Call call bytes room) = (length bytes ≤ 1024) × (room ≤ 1024)
CanRun _ = ⊥

-- an empty room with the bytes of a sub-page
pub record IsRoom (room : Vec ℕ Global) : Type 0 where
  pub empty : room.items ≡ []
  pub bytes : 1024 ≤ vec_capacity room

-- the room is enough for what may be printed behind the command; that of a call is full of zeros
abbrev pub IsReadyFor : Word → Vec ℕ Global → Type 0
IsReadyFor (Read name offset len) room = IsRoom room
IsReadyFor (Write name offset bytes) room = IsRoom room
IsReadyFor (Call call bytes most) room = room.items ≡ replicate most 0
IsReadyFor _ room = Unit {0}

-- the command ends in no survey: it is a call on memory, or one of the host
abbrev pub IsCall : Word → Type 0
IsCall (SwapRound enclave low) = ⊥
IsCall (SetShare enclave to) = ⊥
IsCall _ = Unit {0}

-- an empty room with a place for each frame that a machine may have
pub record IsWords (words : Vec Looked Global) : Type 0 where
  pub empty : words.items ≡ []
  pub places : most_frames ≤ vec_capacity words

-- the room is enough for the words that a survey may note
abbrev pub HasWords : Word → Vec Looked Global → Type 0
HasWords (SwapRound enclave low) words = IsWords words
HasWords (SetShare enclave to) words = IsWords words
HasWords _ words = Unit {0}

-- the name that an alloc binds has room
abbrev pub HasName : NameTable → Word → Type 0
HasName names (Alloc name bytes) = IsTrue (has_room names name)
HasName names _ = Unit {0}

-- all that a task needs: this actor may give it
pub record IsReady (k : Plan) (actor : Actor) (names : NameTable) (task : Task) : Type 0 where
  pub may : MayRun k actor task.command
  pub can : CanRun task.command
  pub words : HasWords task.command task.words
  pub room : IsReadyFor task.command task.room
  pub name : HasName names task.command

-- each of these tasks has all that it needs
abbrev pub AllReady : Plan → Actor → NameTable → List Task → Type 0
AllReady k actor names [] = Unit {0}
AllReady k actor names (task ∷ tasks) = IsReady k actor names task × AllReady k actor names tasks

-- each name that had room has room still
abbrev pub KeepsRooms : NameTable → NameTable → Type 0
KeepsRooms old new = (text : List ℕ) → IsTrue (has_room old text) → IsTrue (has_room new text)
