-- What a text is where no more bytes come.
use Rattle.std.proofs.Common.{◌≡◌, ℕ, ◌≤◌, List, [], ◌∷◌, ◌++◌, length, Some, None, Result, Ok, Err, Bool, true, false, refl, sym, ◌∙◌, ap, append-nil, arith, cond, nat_le}
use Rattle.eleos_texts.specs.declared.why.Bad.{Bad}
use Rattle.eleos_texts.specs.declared.why.Why.TheVariants.{Cut, Form}
use Rattle.eleos_texts.specs.declared.why.TraceRefused.{TraceRefused}
use Rattle.eleos_texts.specs.declared.why.TraceRefused.TheVariants as refused
use Rattle.eleos_texts.specs.Reasons.{Fails}
use Rattle.eleos_texts.specs.Texts.{most_text}
use Rattle.eleos_kvwire.specs.declared.reader.Reader.{Reader}
use Rattle.eleos_kvwire.specs.Feeding.{HasRead, Holds, text_with}
use Rattle.eleos_kvwire.specs.Steps.{Reaches}
use Rattle.eleos_kvwire.proofs.Fed.{is_le, held_refusal, holds_on}
use Rattle.std.specs.Prelude.{take, IfErr}
use Rattle.eleos_kvwire.specs.declared.header.Header.{Header}
use Rattle.eleos_kvwire.specs.declared.stage.Stage.{Stage}
use Rattle.eleos_kvwire.specs.declared.stage.Stage.TheVariants as stages
use Rattle.eleos_kvwire.specs.declared.trace.KvCommand.{KvCommand}
use Rattle.eleos_kvwire.specs.Header.{is_ended}
use Rattle.eleos_kvwire.specs.Reading.{Text, IsWhole, IsFront, IsBad, bad, read_from, text_of, trace_with, trace_in, refusal_in, refusal_past, first_refusal, session_of}

module _ (held : List ℕ) (header : Header) (line : ℕ) (before : List KvCommand) where
  -- the text ends before its last line, or in it
  pub cut_at : (stage : Stage) → is_ended stage ≡ false → refusal_in (read_from stage held header line before ([] ∷ [])) ≡ None
      → trace_in (read_from stage held header line before ([] ∷ [])) ≡ Err (record { line = line; why = Cut })
  unfolding read_from
  cut_at (stages.Header due) more good = refl
  cut_at stages.Command more good = refl
  cut_at (stages.Value set) more good = by (nat_le (length (held ++ [])) set.len) good where
    by : (b : Bool) → refusal_in (cond b (IsFront line) (bad line Form)) ≡ None → trace_in (cond b (IsFront line) (bad line Form)) ≡ Err (record { line = line; why = Cut })
    by true good = refl
    by false good = absurd cc
  cut_at stages.End more good = absurd cc

  -- nothing stands behind the last line
  pub whole_at : (stage : Stage) → is_ended stage ≡ true → trace_in (read_from stage held header line before ([] ∷ [])) ≡ Ok (trace_with header before)
  unfolding read_from
  whole_at (stages.Header due) end = absurd cc
  whole_at stages.Command end = absurd cc
  whole_at (stages.Value set) end = absurd cc
  whole_at stages.End end = refl

refused_in : (text : Text) (found : Bad) → refusal_in text ≡ Some found → trace_in text ≡ Err found
refused_in (IsWhole trace) found is = absurd cc
refused_in (IsFront line) found is = absurd cc
refused_in (IsBad other) found is = cc

-- a text that is refused is no session
pub refused_session : (bytes : List ℕ) (found : Bad) → first_refusal bytes ≡ Some found → session_of bytes ≡ Err found
unfolding first_refusal session_of
refused_session bytes found is = by (nat_le (length bytes) most_text) is where
  by : (b : Bool) → cond b (refusal_in (text_of bytes)) (Some (refusal_past (text_of (take most_text bytes)))) ≡ Some found
      → cond b (trace_in (text_of bytes)) (Err (refusal_past (text_of (take most_text bytes)))) ≡ Err found
  by true is = refused_in (text_of bytes) found is
  by false is = cc

-- a text that has not too many bytes
pub session_within : (bytes : List ℕ) → nat_le (length bytes) most_text ≡ true → session_of bytes ≡ trace_in (text_of bytes)
unfolding session_of
session_within bytes within = rw within refl

-- a refusal that holds
pub held_session : (e : TraceRefused) (bytes : List ℕ) → Holds e bytes → Fails e (session_of bytes)
held_session refused.NoMemory bytes holds = tt
held_session (refused.Bad line why) bytes holds = refused_session bytes (record { line = line; why = why }) (held_refusal line why bytes holds)

-- the session that was read
pub read_session : (bytes : List ℕ) (reader : Reader) → reader.bytes ≤ 16777216 → HasRead bytes reader → session_of bytes ≡ trace_in (text_with reader [])
read_session bytes reader few has =
    let count : reader.bytes ≡ length bytes = has.count in
    let within : length bytes ≤ most_text = omega arith in
    session_within bytes (is_le (length bytes) most_text within) ∙ ap trace_in (ap text_of (sym (append-nil bytes)) ∙ has.knows [])

-- what is refused stays so, whatever comes behind
pub stands : {A : Type 0} (result : Result A TraceRefused) (bytes rest : List ℕ) (reader : Reader) → Reaches result bytes reader → IfErr result (λ e. Fails e (session_of (bytes ++ rest)))
stands (Ok x) bytes rest reader reached = tt
stands (Err e) bytes rest reader reached = held_session e (bytes ++ rest) (holds_on e bytes rest reached)
