-- The laws over every history of a turnstile whose cells are the machine's.
use Rattle.std.specs.Prelude.{◌≡◌, ℕ, List}
use Rattle.eleos_base.specs.declared.plan.Plan.{Plan}
use Rattle.eleos_base.specs.declared.plot.Base.{Base}
use Rattle.eleos_base.specs.declared.plot.Event.{Event as Stamped}
use Rattle.eleos_base.specs.Histories.{Legal, MayFollow, linked, made}
use Rattle.eleos_core.specs.Laws.{IsLegalRun}
use Rattle.eleos_core.specs.Legal.{CoreStep}
use Rattle.eleos_core.specs.PartLaws.{IsLenOf}
use Rattle.eleos_core.specs.Parts.{MayStep, Part, Stamp, cell_of, part_at}
use Rattle.eleos_core.specs.Seals.{seals_by}
use Rattle.eleos_core.specs.State.{History}
use Rattle.eleos_plot.specs.declared.cell.Cell.{Cell}
use Rattle.eleos_plot.specs.declared.plot.Ground.{Ground}
use Rattle.eleos_plot.specs.Cells.{part_of_cell}
use Rattle.eleos_plot.specs.Fits.{FitCellsShow, Fits}
use Rattle.eleos_plot.specs.Histories.{IsKept, IsMachineRun, IsOpening, history_of, kept_by}
use Rattle.eleos_plot.specs.Terms.{core_terms}

-- what a turnstile's legal history is to the machine
abbrev pub PlotAgrees : Type 0
PlotAgrees = (b : Base Part Ground) (es : List (Stamped Stamp Part)) → IsOpening b → Legal core_terms b es → IsMachineRun b es

-- an entry that is legal on the machine after a turnstile's history may follow there, with what it makes of its cells
abbrev pub PlotAllows : Type 0
PlotAllows = (b : Base Part Ground) (es : List (Stamped Stamp Part)) (d : Stamp) → IsOpening b → Legal core_terms b es
    → CoreStep b.grounds.plan (seals_by b.grounds.key) (history_of es) d.entry → IsLenOf b.grounds.plan (history_of es) d.entry.who d.entry.event d.len
    → MayFollow core_terms b.grounds (made core_terms b es) (linked core_terms b.grounds es) (record { entry = d; kept = kept_by b.grounds (made core_terms b es) d })

-- what is kept by an entry that may be made on the parts
abbrev pub KeptIsMade : Type 0
KeptIsMade = (g : Ground) (before : ℕ → Part) (d : Stamp) → MayStep g.plan (seals_by g.key) d before → IsKept g before d (kept_by g before d)

-- a value that has the part which a legal history made of a cell fits that cell
abbrev pub CellsFit : Type 0
CellsFit = (k : Plan) (key : List ℕ) (past : History) (c : ℕ) (value : Cell) → IsLegalRun k key past → part_of_cell value ≡ part_at k (seals_by key) past c → Fits k (cell_of k c) value

-- fit cells have their parts
abbrev pub CellsShow : Type 0
CellsShow = (k : Plan) → FitCellsShow k
