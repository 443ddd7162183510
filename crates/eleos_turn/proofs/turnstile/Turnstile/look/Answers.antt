use Rattle.eleos_turn.proofs.Fits.{fits_looked}
use Rattle.eleos_turn.proofs.turnstile.Turnstile.look.Goals as goal

pub invariant_of-hand : goal.invariant_of-hand
invariant_of-hand g c = fits_looked g.P.Plot.terms _ _ _ _ _ _ _ _ _ _ _ c.hand.invariant c.look.ensures.same c.look.ensures.noted

pub returns-clause-sound : goal.returns-clause-sound
returns-clause-sound g c = (invariant_of-hand g c).sound
