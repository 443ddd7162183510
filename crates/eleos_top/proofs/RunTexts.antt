-- What is put and left of a run that was made.
use Rattle.std.proofs.Common.{◌≡◌, ◌⊎◌, inl, inr, ℕ, List, take, Option, Some, None, IfSome, refl, sym, subst}
use Rattle.std.specs.Io.KnownBytes.{Appends, Keeps}
use Rattle.eleos_base.specs.declared.status.Status.{Status}
use Rattle.eleos_base.specs.declared.status.Status.TheVariants.{Done, WriteFault, Memory}
use Rattle.eleos_base.specs.Plans.{IsGood}
use Rattle.eleos_core.specs.Laws.{FreshNonces, OfEveryRun}
use Rattle.eleos_core.specs.Legal.{CoreRun}
use Rattle.eleos_core.specs.Seals.{seals_by}
use Rattle.eleos_machine.specs.Passes.{PassState, seen}
use Rattle.eleos_report.specs.declared.line.LogLine.{LogLine}
use Rattle.eleos_report.specs.Log.{log_text}
use Rattle.eleos_trace.specs.declared.trace.Kind.TheVariants.{Run}
use Rattle.eleos_trace.specs.declared.trace.Trace.{Trace}
use Rattle.eleos_trace.specs.Reading.{trace_of}
use Rattle.eleos_top.specs.declared.running.RunEnd.{RunEnd}
use Rattle.eleos_top.specs.Input.{TellsTrace}
use Rattle.eleos_top.specs.Outcome.{IsText, PutsBy}
use Rattle.eleos_top.specs.RunEnds.{CallersRan, IsRunText, RanBy}
use Rattle.eleos_top.proofs.Tampering.{truly_tampered}

module _ (IsRunOf : Trace → PassState → List LogLine → Type 0) (end : RunEnd) (trace : Trace) where
  -- a run that was made, and what holds of each legal history
  pub has_run : (pass : PassState) → IsGood trace.plan → OfEveryRun (λ k key h. FreshNonces k h) → CoreRun trace.plan (seals_by trace.key) (seen pass)
      → end.pass ≡ Some pass → IsRunOf trace pass end.log → CallersRan IsRunOf end trace
  has_run pass good fresh history pass_is run = record {
    pass = pass;
    pass_is = pass_is;
    run = run;
    fresh = fresh trace.plan trace.key (seen pass) (record { good = good; legal = history });
    tampered = truly_tampered trace.plan (seals_by trace.key) (seen pass) history;
  }

  module _ (old new : Option (List ℕ)) (has_run : CallersRan IsRunOf end trace) where
    text_of_log : (left : Option (List ℕ)) → IfSome left (TellsTrace Run trace) → IsText (trace_of Run) (IsRunText IsRunOf end) left (log_text end.log)
    text_of_log left told = record { spelled = trace; read_is = told; text_is = (has_run, refl) }

    -- the log or a front of it, or nothing for want of memory
    pub puts_log : (status : Status) (left : Option (List ℕ)) (puts puts' : ℕ) → IfSome left (TellsTrace Run trace)
        → (status ≡ Done → Appends old new (log_text end.log)) → (status ≡ WriteFault → (count : ℕ) × Appends old new (take count (log_text end.log)))
        → (status ≡ Memory → Keeps old new) → (status ≡ Done) ⊎ (status ≡ WriteFault) ⊎ (status ≡ Memory)
        → PutsBy (trace_of Run) (IsRunText IsRunOf end) status left old new puts puts'
    puts_log status left puts puts' told all part keeps (inl same) = subst (λ s. PutsBy (trace_of Run) (IsRunText IsRunOf end) s left old new puts puts') (sym same) (log_text end.log, text_of_log left told, all same)
    puts_log status left puts puts' told all part keeps (inr (inl same)) = subst (λ s. PutsBy (trace_of Run) (IsRunText IsRunOf end) s left old new puts puts') (sym same) (log_text end.log, (part same).0, text_of_log left told, (part same).1)
    puts_log status left puts puts' told all part keeps (inr (inr same)) = subst (λ s. PutsBy (trace_of Run) (IsRunText IsRunOf end) s left old new puts puts') (sym same) (keeps same)

  -- the callers ran
  pub ran_by : (status : Status) (left : Option (List ℕ)) → CallersRan IsRunOf end trace → IfSome left (TellsTrace Run trace)
      → (status ≡ Done) ⊎ (status ≡ WriteFault) ⊎ (status ≡ Memory) → RanBy IsRunOf status left end
  ran_by status left has_run told (inl same) = subst (λ s. RanBy IsRunOf s left end) (sym same) (record { trace = trace; spelled = told; has_run = has_run })
  ran_by status left has_run told (inr (inl same)) = subst (λ s. RanBy IsRunOf s left end) (sym same) (record { trace = trace; spelled = told; has_run = has_run })
  ran_by status left has_run told (inr (inr same)) = subst (λ s. RanBy IsRunOf s left end) (sym same) (inl (record { trace = trace; spelled = told; has_run = has_run }))
