use Rattle.std.proofs.Common.{◌<◌, sym, subst}
use Rattle.eleos_turn.specs.Numbers.{times}
use Rattle.eleos_turn.specs.Hands.{HandState, links_on}
use Rattle.eleos_turn.proofs.Fits.{fits_unpinned}
use Rattle.eleos_turn.proofs.turnstile.Turnstile.unpin.Goals as goal

pub invariant_of-hand : goal.invariant_of-hand
invariant_of-hand g c = fits_unpinned g.P.Plot.terms _ _ _ _ _ _ _ _ _ c.args.cell c.hand.invariant c.unpin.ensures.same
    (subst (λ (s : HandState g.row.P-Draft.Denot g.row.P-Part.Denot g.row.P-Ground.Denot). links_on g.P.Plot.terms s c.args.cell < times c.args.cell s.pins) (sym c.hand.view_is) c.requires.pin) c.unpin.ensures.unpinned

pub returns-clause-sound : goal.returns-clause-sound
returns-clause-sound g c = (invariant_of-hand g c).sound
