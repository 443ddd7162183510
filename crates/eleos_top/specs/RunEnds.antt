-- How the word `run` ends: which callers ran, what they did, and what was put of it.
use Rattle.std.specs.Prelude.{◌≡◌, ◌≢◌, ◌⊎◌, ℕ, List, [], ◌∷◌, ◌++◌, Option, Some, None, IfSome, codes}
use Rattle.eleos_base.specs.declared.memory.Reply.TheVariants.{Tampered}
use Rattle.eleos_base.specs.declared.plan.Plan.{Plan}
use Rattle.eleos_base.specs.declared.status.Status.{Status}
use Rattle.eleos_base.specs.declared.status.Status.TheVariants.{Done, NotLegal, Usage, Refused, ReadFault, WriteFault, Memory}
use Rattle.eleos_core.specs.declared.event.Entry.{Entry}
use Rattle.eleos_core.specs.Laws.{FreshNonces}
use Rattle.eleos_core.specs.Seals.{Seals, seals_by}
use Rattle.eleos_core.specs.State.{History, last}
use Rattle.eleos_machine.specs.Passes.{PassState, seen}
use Rattle.eleos_report.specs.declared.line.LogLine.{LogLine}
use Rattle.eleos_report.specs.Log.{log_text}
use Rattle.eleos_trace.specs.declared.trace.Kind.TheVariants.{Run}
use Rattle.eleos_trace.specs.declared.trace.Trace.{Trace}
use Rattle.eleos_trace.specs.Reading.{trace_of}
use Rattle.eleos_top.specs.declared.running.RunEnd.{RunEnd}
use Rattle.eleos_top.specs.Input.{TellsTrace}
use Rattle.eleos_top.specs.Outcome.{EndsBy}

module _ (k : Plan) (x : Seals) where
  -- where the reply is `tampered`, the block that came last is not the one last sealed at that place
  abbrev pub IsTrulyTampered : History → Entry → Type 0
  IsTrulyTampered past e = (s : ℕ) → e.reply ≡ Tampered s
      → (before : List (List ℕ)) × (block : List ℕ) × (e.blocks ≡ before ++ block ∷ []) × (block ≢ last k x past s)

  -- it is so for each entry of a history
  abbrev pub AreTrulyTampered : History → Type 0
  AreTrulyTampered [] = Unit {0}
  AreTrulyTampered (e ∷ past) = IsTrulyTampered past e × AreTrulyTampered past

-- no callers ran
pub record NoneRan (end : RunEnd) : Type 0 where
  pub no_pass : end.pass ≡ None
  pub no_line : end.log ≡ []

-- what a run of a trace leaves: a pass that has seen its history, and its log
module _ (IsRunOf : Trace → PassState → List LogLine → Type 0) where
  -- the callers of the trace ran, and these are the pass and the log of their run
  pub record CallersRan (end : RunEnd) (trace : Trace) : Type 0 where
    pub pass : PassState
    pub pass_is : end.pass ≡ Some pass
    pub run : IsRunOf trace pass end.log
    -- no nonce was used twice, and no block that is the one last sealed at its place was found tampered
    pub fresh : FreshNonces trace.plan (seen pass)
    pub tampered : AreTrulyTampered trace.plan (seals_by trace.key) (seen pass)

  -- the text is the log of their run
  abbrev pub IsRunText : RunEnd → Trace → List ℕ → Type 0
  IsRunText end trace text = CallersRan end trace × (text ≡ log_text end.log)

  -- the callers of the trace that the input spells ran
  pub record Ran (left : Option (List ℕ)) (end : RunEnd) : Type 0 where
    pub trace : Trace
    pub spelled : IfSome left (TellsTrace Run trace)
    pub has_run : CallersRan end trace

  -- whether callers ran, by the status
  abbrev pub RanBy : Status → Option (List ℕ) → RunEnd → Type 0
  RanBy Done left end = Ran left end
  RanBy WriteFault left end = Ran left end
  RanBy Memory left end = Ran left end ⊎ NoneRan end
  RanBy NotLegal left end = NoneRan end
  RanBy Usage left end = NoneRan end
  RanBy Refused left end = NoneRan end
  RanBy ReadFault left end = NoneRan end

  -- how the word `run` ends: what it puts, the causes of its status, and whether callers ran
  pub record RunEndsBy (words : List (List ℕ)) (end : RunEnd) (left old new : Option (List ℕ)) (takes takes' puts puts' : ℕ) : Type 0 where
    pub ends : EndsBy (trace_of Run) (IsRunText end) (codes "run") words end.status left old new takes takes' puts puts'
    pub ran : RanBy end.status left end
