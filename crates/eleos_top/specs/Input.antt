-- What an input spells.
use Rattle.std.specs.Prelude.{◌≡◌, ℕ, List, Ok, Err}
use Rattle.eleos_trace.specs.declared.trace.Kind.{Kind}
use Rattle.eleos_trace.specs.declared.trace.Trace.{Trace}
use Rattle.eleos_texts.specs.declared.why.Bad.{Bad}
use Rattle.eleos_trace.specs.Reading.{trace_of}

-- the input spells this trace of this kind
abbrev pub TellsTrace : Kind → Trace → List ℕ → Type 0
TellsTrace kind trace input = trace_of kind input ≡ Ok trace

-- the first bad line of the input as a trace of that kind, with its first reason
abbrev pub TellsBad : Kind → Bad → List ℕ → Type 0
TellsBad kind bad input = trace_of kind input ≡ Err bad
