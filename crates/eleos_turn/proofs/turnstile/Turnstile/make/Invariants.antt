use Rattle.std.proofs.Common.{[], ◌∷◌}
use Rattle.eleos_turn.proofs.turnstile.Turnstile.make.Given as goal

abbrev pub ghosts-tell : goal.ghosts-tell
ghosts-tell g a = record { tells = g.grounds ∷ [] }
