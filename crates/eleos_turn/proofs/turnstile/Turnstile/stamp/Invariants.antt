use Rattle.std.proofs.Common.{[], ◌∷◌}
use Rattle.eleos_turn.proofs.turnstile.Turnstile.stamp.Given as goal

abbrev pub ghosts-stamp_as : goal.ghosts-stamp_as
ghosts-stamp_as g a = record { asked = record { entry = a.entry.now; kept = g.kept } ∷ [] }
