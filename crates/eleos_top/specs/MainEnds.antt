-- How the program's call ends, by the call that was picked.
use Rattle.eleos_base.specs.declared.status.Status.{Status}
use Rattle.eleos_top.specs.declared.picking.MainEnd.{MainEnd}
use Rattle.eleos_top.specs.declared.picking.MainEnd.TheVariants.{Run, Plain}
use Rattle.eleos_top.specs.declared.running.RunEnd.{RunEnd}

-- a run was picked, and it has such an end
abbrev pub IsRunEnd : (RunEnd → Type 0) → MainEnd → Type 0
IsRunEnd Holds (Run end) = Holds end
IsRunEnd Holds (Plain status) = ⊥

-- no run was picked, and the status is such a one
abbrev pub IsPlainEnd : (Status → Type 0) → MainEnd → Type 0
IsPlainEnd Holds (Run end) = ⊥
IsPlainEnd Holds (Plain status) = Holds status

-- the status of an end
abbrev pub status_of : MainEnd → Status
status_of (Run end) = end.status
status_of (Plain status) = status
