-- What every trace of a kind keeps to.
use Rattle.std.specs.Prelude.{◌≡◌, ℕ, ◌≤◌, ◌<◌, List, length, All}
use Rattle.eleos_base.specs.declared.plan.Plan.{Plan}
use Rattle.eleos_base.specs.AesKey.{IsKeyLength}
use Rattle.eleos_base.specs.Limits.{most_frames, most_header_blocks}
use Rattle.eleos_base.specs.Plans.{IsCaller, IsGood, enclave_of}
use Rattle.eleos_trace.specs.declared.word.Actor as actors
use Rattle.eleos_trace.specs.declared.word.Actor.TheVariants.{Caller, Swapper, Balloon}
use Rattle.eleos_trace.specs.declared.word.Word.{Word}
use Rattle.eleos_trace.specs.declared.word.Word.TheVariants.{Alloc, Free, Share, Read, Write, SwapRound, SetShare, Call}
use Rattle.eleos_trace.specs.declared.trace.Kind.{Kind}
use Rattle.eleos_trace.specs.declared.trace.Kind.TheVariants.{Run, Replay}
use Rattle.eleos_trace.specs.declared.trace.Line.{Line}
use Rattle.eleos_trace.specs.declared.trace.Trace.{Trace}
use Rattle.eleos_trace.specs.Blocks.{EachFindsRoom}
use Rattle.eleos_trace.specs.Calls.{most_call}
use Rattle.eleos_trace.specs.Commands.{most_bytes}
use Rattle.eleos_trace.specs.Replays.{IsCallerOf, MayGive}
use Rattle.eleos_trace.specs.Seen.{most_commands}

-- a caller of the plan in its own enclave, or this other actor in any enclave of the plan
abbrev pub IsOfEnclave : Plan → actors.Actor → actors.Actor → ℕ → Type 0
IsOfEnclave plan other (Caller number) enclave = IsCaller plan number × (enclave ≡ enclave_of plan number)
IsOfEnclave plan other who enclave = (who ≡ other) × (enclave < length plan.enclaves)

-- a command of a run is one of these eight: a caller of the plan gives it, and a round or a change of a share also the swapper or the balloon
abbrev pub MayRun : Plan → actors.Actor → Word → Type 0
MayRun plan who (Alloc name bytes) = IsCallerOf plan who
MayRun plan who (Free name) = IsCallerOf plan who
MayRun plan who (Share name) = IsCallerOf plan who
MayRun plan who (Read name offset len) = IsCallerOf plan who
MayRun plan who (Write name offset bytes) = IsCallerOf plan who × (length bytes ≤ most_bytes)
MayRun plan who (SwapRound enclave low) = IsOfEnclave plan Swapper who enclave
MayRun plan who (SetShare enclave to) = IsOfEnclave plan Balloon who enclave × (to ≤ most_frames)
MayRun plan who (Call call bytes room) = IsCallerOf plan who × (length bytes ≤ most_call) × (room ≤ most_call)
MayRun plan who _ = ⊥

-- the actor may give the command in a trace of this kind
abbrev pub MayGiveIn : Kind → Plan → actors.Actor → Word → Type 0
MayGiveIn Run = MayRun
MayGiveIn Replay = MayGive

-- not too many commands, each by an actor that may give it
pub record AreGiven (kind : Kind) (plan : Plan) (lines : List Line) : Type 0 where
  pub each : All (λ line. MayGiveIn kind plan line.actor line.command) lines
  pub few : length lines ≤ most_commands

-- a good plan with at most 256 header blocks and room for them, a key of a good length, a name for each block, and commands that the actors may give
pub record IsTrace (kind : Kind) (trace : Trace) : Type 0 where
  pub kind_is : trace.kind ≡ kind
  pub good : IsGood trace.plan
  pub few_blocks : length trace.plan.blocks ≤ most_header_blocks
  pub room : EachFindsRoom trace.plan
  pub key : IsKeyLength (length trace.key)
  pub names : length trace.names ≡ length trace.plan.blocks
  pub lines : AreGiven kind trace.plan trace.lines

-- a trace of kind run
abbrev pub IsRun : Trace → Type 0
IsRun = IsTrace Run

-- a trace of kind replay
abbrev pub IsReplay : Trace → Type 0
IsReplay = IsTrace Replay
