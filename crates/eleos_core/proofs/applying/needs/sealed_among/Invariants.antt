use Rattle.std.proofs.Common.{◌≡◌, take}
use Rattle.eleos_core.specs.Parts.{sealed_from}
use Rattle.eleos_core.proofs.Needing.{bare}
use Rattle.eleos_core.proofs.applying.needs.sealed_among.Given as goal

abbrev pub invariant-loop-i : goal.invariant-loop-i
invariant-loop-i l = l.places ≡ sealed_from l.first (bare (take l.i l.subs))
