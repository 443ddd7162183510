-- The laws of the logs of runs.
use Rattle.std.specs.Prelude.{ℕ, ◌+◌, ◌≤◌, List, [], ◌∷◌}
use Rattle.eleos_report.specs.declared.line.LogLine.{LogLine}
use Rattle.eleos_trace.specs.declared.trace.Trace.{Trace}
use Rattle.eleos_run.specs.Lines.{stamps_in}
use Rattle.eleos_core.specs.Parts.{Entries}
use Rattle.eleos_run.specs.Runs.{AreLinesOf}

-- the first number is n or above it, and each other one above the one before it
abbrev pub RiseFrom : ℕ → List ℕ → Type 0
RiseFrom n [] = Unit {0}
RiseFrom n (stamp ∷ stamps) = (n ≤ stamp) × RiseFrom (stamp + 1) stamps

-- the stamps in the lines of a caller rise
abbrev pub StampsRise : Type 0
StampsRise = (trace : Trace) (who : ℕ) (h : Entries) (lines : List LogLine) → AreLinesOf trace who h lines → RiseFrom 0 (stamps_in lines)
