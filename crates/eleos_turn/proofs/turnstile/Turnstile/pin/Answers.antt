use Rattle.std.proofs.Common.{◌<◌, length, arith, sym, ap, ◌∙◌, subst}
use Rattle.eleos_base.specs.Ties.{Has}
use Rattle.eleos_turn.specs.Numbers.{most_pins}
use Rattle.eleos_turn.specs.Hands.{HandState}
use Rattle.eleos_turn.proofs.Calls.{opening_length}
use Rattle.eleos_turn.proofs.Fits.{fits_pinned, most_now}
use Rattle.eleos_turn.proofs.turnstile.Turnstile.pin.Goals as goal

pub pin-requires-clause-cell : goal.pin-requires-clause-cell
pin-requires-clause-cell g c = let same = ap (λ h. length h.base.opening) (ap (λ s. s.home) c.hand.view_is ∙ (c.requires.own ∙ sym c.self.view_is)) in let count = opening_length g.P.Plot.terms c.self.inside.cells.table.shared.key in let inside = c.hand.invariant.sound.turns c.args.cell (subst (λ (s : HandState g.row.P-Draft.Denot g.row.P-Part.Denot g.row.P-Ground.Denot). Has c.args.cell s.turns) (sym c.hand.view_is) c.requires.held) in omega (arith, same, count, inside)

pub pin-requires-clause-few : goal.pin-requires-clause-few
pin-requires-clause-few g c = let most = most_now g.P.Plot.terms _ _ _ _ _ _ _ c.args.cell c.hand.invariant (subst (λ (s : HandState g.row.P-Draft.Denot g.row.P-Part.Denot g.row.P-Ground.Denot). Has c.args.cell s.turns) (sym c.hand.view_is) c.requires.held) in let few = c.requires.few in let pins = ap (λ s. length s.pins) c.hand.view_is in omega (arith, most, few, pins)

pub invariant_of-hand : goal.invariant_of-hand
invariant_of-hand g c = fits_pinned g.P.Plot.terms _ _ _ _ _ _ _ _ _ c.args.cell c.hand.invariant c.pin.ensures.same (subst (λ (s : HandState g.row.P-Draft.Denot g.row.P-Part.Denot g.row.P-Ground.Denot). Has c.args.cell s.turns) (sym c.hand.view_is) c.requires.held)
    (subst (λ (s : HandState g.row.P-Draft.Denot g.row.P-Part.Denot g.row.P-Ground.Denot). length s.pins < most_pins) (sym c.hand.view_is) c.requires.few) c.pin.ensures.pinned

pub returns-clause-sound : goal.returns-clause-sound
returns-clause-sound g c = (invariant_of-hand g c).sound
