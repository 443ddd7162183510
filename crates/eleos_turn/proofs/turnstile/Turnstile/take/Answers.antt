use Rattle.std.proofs.Common.{ℕ, ◌<◌, length, sym, ap, ◌∙◌, subst}
use Rattle.eleos_base.specs.Ties.{Has}
use Rattle.eleos_turn.specs.Hands.{HandState}
use Rattle.eleos_turn.proofs.Sound.{numbers_made}
use Rattle.eleos_turn.proofs.Fits.{fits_took}
use Rattle.eleos_turn.proofs.turnstile.Turnstile.take.Goals as goal

pub take-taken-requires-clause-made : goal.take-taken-requires-clause-made
take-taken-requires-clause-made g c = ((c.hand.inside.number, subst (Has c.hand.inside.number) (sym (ap (λ m. m.0.numbers) c.hand.invariant.is)) (numbers_made c.hand.inside.number (subst (λ (s : HandState g.row.P-Draft.Denot g.row.P-Part.Denot g.row.P-Ground.Denot). 0 < s.number) (sym c.hand.view_is) c.requires.made))), c.hand.invariant.sound.alive)

pub invariant_of-hand : goal.invariant_of-hand
invariant_of-hand g c = fits_took g.P.Plot.terms _ _ _ _ _ _ _ _ _ c.args.cell _ _ c.hand.invariant c.take-taken.ensures.same.0 (subst (λ (s : HandState g.row.P-Draft.Denot g.row.P-Part.Denot g.row.P-Ground.Denot). 0 < s.number) (sym c.hand.view_is) c.requires.made) (subst (λ (n : ℕ). c.args.cell < n) (sym (ap (λ h. length h.base.opening) (ap (λ s. s.home) c.hand.view_is ∙ c.requires.own))) c.requires.cell) (subst (λ (s : HandState g.row.P-Draft.Denot g.row.P-Part.Denot g.row.P-Ground.Denot). Has c.args.cell s.turns → ⊥) (sym c.hand.view_is) c.requires.free) c.take-taken.ensures.took.1 c.take-taken.ensures.same.2

pub returns-clause-sound : goal.returns-clause-sound
returns-clause-sound g c = (invariant_of-hand g c).sound
