use Rattle.std.proofs.Common.{ℕ, ◌<◌, length, sym, ap, ◌∙◌, subst}
use Rattle.eleos_base.specs.Ties.{Has}
use Rattle.eleos_turn.specs.Hands.{HandState}
use Rattle.eleos_turn.proofs.Sound.{numbers_made}
use Rattle.eleos_turn.proofs.Fits.{fits_took, fits_refused}
use Rattle.eleos_turn.proofs.turnstile.Turnstile.try_take.Goals as goal

pub attempt-requires-clause-made : goal.attempt-requires-clause-made
attempt-requires-clause-made g c = ((c.hand.inside.number, subst (Has c.hand.inside.number) (sym (ap (λ m. m.0.numbers) c.hand.invariant.is)) (numbers_made c.hand.inside.number (subst (λ (s : HandState g.row.P-Draft.Denot g.row.P-Part.Denot g.row.P-Ground.Denot). 0 < s.number) (sym c.hand.view_is) c.requires.made))), c.hand.invariant.sound.alive)

pub invariant_of-hand : goal.invariant_of-hand
invariant_of-hand g c = fits_took g.P.Plot.terms _ _ _ _ _ _ _ _ _ c.args.cell _ _ c.hand.invariant c.attempt.ensures.same.0 (subst (λ (s : HandState g.row.P-Draft.Denot g.row.P-Part.Denot g.row.P-Ground.Denot). 0 < s.number) (sym c.hand.view_is) c.requires.made) (subst (λ (n : ℕ). c.args.cell < n) (sym (ap (λ h. length h.base.opening) (ap (λ s. s.home) c.hand.view_is ∙ c.requires.own))) c.requires.cell) (subst (λ (s : HandState g.row.P-Draft.Denot g.row.P-Part.Denot g.row.P-Ground.Denot). Has c.args.cell s.turns → ⊥) (sym c.hand.view_is) c.requires.free) c.in-Ok.ensures.took.1 c.attempt.ensures.same.2

pub invariant_of-hand-in-Err : goal.invariant_of-hand-in-Err
invariant_of-hand-in-Err g c = fits_refused g.P.Plot.terms _ _ _ _ _ _ _ _ _ _ _ _ c.hand.invariant c.attempt.ensures.same.0 c.in-Err.ensures.took.1 (λ i. record { count = c.saturating_add.ensures i; cell = c.args.cell; word = c.in-Err.word })

pub returns-in-Ok-clause-sound : goal.returns-in-Ok-clause-sound
returns-in-Ok-clause-sound g c = (invariant_of-hand g c).sound

pub returns-in-Err-clause-sound : goal.returns-in-Err-clause-sound
returns-in-Err-clause-sound g c = (invariant_of-hand-in-Err g c).sound
