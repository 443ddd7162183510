use Rattle.std.proofs.Common.{length, arith, sym, ap, ◌∙◌, subst}
use Rattle.eleos_base.specs.Ties.{Has}
use Rattle.eleos_turn.specs.Hands.{HandState}
use Rattle.eleos_turn.proofs.Calls.{opening_length}
use Rattle.eleos_turn.proofs.Fits.{fits_given}
use Rattle.eleos_turn.proofs.turnstile.Turnstile.give.Goals as goal

pub hand_back-requires-clause-cell : goal.hand_back-requires-clause-cell
hand_back-requires-clause-cell g c = let same = ap (λ h. length h.base.opening) (ap (λ s. s.home) c.hand.view_is ∙ (c.requires.own ∙ sym c.self.view_is)) in let count = opening_length g.P.Plot.terms c.self.inside.cells.table.shared.key in let inside = c.hand.invariant.sound.turns c.args.cell (subst (λ (s : HandState g.row.P-Draft.Denot g.row.P-Part.Denot g.row.P-Ground.Denot). Has c.args.cell s.turns) (sym c.hand.view_is) c.requires.held) in omega (arith, same, count, inside)

pub invariant_of-hand : goal.invariant_of-hand
invariant_of-hand g c = fits_given g.P.Plot.terms _ _ _ _ _ _ _ _ _ c.args.cell c.hand.invariant c.hand_back.ensures.same.0 (subst (λ (s : HandState g.row.P-Draft.Denot g.row.P-Part.Denot g.row.P-Ground.Denot). Has c.args.cell s.turns) (sym c.hand.view_is) c.requires.held) c.hand_back.ensures.given

pub returns-clause-sound : goal.returns-clause-sound
returns-clause-sound g c = (invariant_of-hand g c).sound
