-- What one byte does to what a reader knows.
use Rattle.std.specs.Prelude.{◌≡◌, ℕ, List, Result, Ok, Err}
use Rattle.eleos_texts.specs.declared.why.TraceRefused.{TraceRefused}
use Rattle.eleos_texts.specs.declared.why.TraceRefused.TheVariants as refused
use Rattle.eleos_kvwire.specs.declared.stage.Stage.{Stage}
use Rattle.eleos_kvwire.specs.declared.stage.Stage.TheVariants as stages
use Rattle.eleos_kvwire.specs.declared.reader.Reader.{Reader}
use Rattle.eleos_kvwire.specs.Reading.{Text, bad}
use Rattle.eleos_kvwire.specs.Feeding.{HasRead, Holds}

-- what is answered for a byte: what the text is stays the same, or it is bad; unless memory ran out
abbrev pub GoesOn : {A : Type 0} → Result A TraceRefused → Text → Text → Type 0
GoesOn (Ok x) now later = now ≡ later
GoesOn (Err refused.NoMemory) now later = Unit {0}
GoesOn (Err (refused.Bad line why)) now later = now ≡ bad line why

-- where the reader is after these bytes, by what it answers
abbrev pub Reaches : {A : Type 0} → Result A TraceRefused → List ℕ → Reader → Type 0
Reaches (Ok x) bytes reader = HasRead bytes reader
Reaches (Err e) bytes reader = Holds e bytes

-- a line stands here
abbrev pub IsAtLine : Stage → Type 0
IsAtLine (stages.Header due) = Unit {0}
IsAtLine stages.Command = Unit {0}
IsAtLine _ = ⊥

-- a value stands here
abbrev pub IsAtValue : Stage → Type 0
IsAtValue (stages.Value set) = Unit {0}
IsAtValue _ = ⊥
