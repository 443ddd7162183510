use Rattle.std.proofs.Common.{ℕ, ◌∷◌, ◌≡◌, Option, refl, sym, ap, ◌∙◌, subst}
use Rattle.atomic_table.specs.Table.{Me}
use Rattle.eleos_base.specs.declared.plot.Tied.{Tied}
use Rattle.eleos_turn.specs.declared.view.View.{View}
use Rattle.eleos_turn.specs.Hands.{HandState, state_of, CanStamp, Stamped, IsHand, tallied}
use Rattle.eleos_turn.specs.Plays.{SeatCanStamp}
use Rattle.eleos_turn.proofs.Fits.{seat_can, takes_some, fits_stamped, stamped_state}
use Rattle.eleos_turn.proofs.turnstile.Turnstile.stamp.Goals as goal

pub stamp_as-number-requires-clause-can : goal.stamp_as-number-requires-clause-can
stamp_as-number-requires-clause-can g c = (
  record { entry = c.args.entry.now; kept = g.kept },
  refl,
  subst (λ (m : Me (Option g.row.P-Cell.Denot) (View g.row.P-Draft.Denot g.row.P-Part.Denot g.row.P-Ground.Denot)). SeatCanStamp g.P.Plot.terms m.0 (record { entry = c.args.entry.now; kept = g.kept })) (sym c.hand.invariant.is) (seat_can g.P.Plot.terms _ c.args.entry.now g.kept c.hand.invariant.sound (subst (λ (s : HandState g.row.P-Draft.Denot g.row.P-Part.Denot g.row.P-Ground.Denot). CanStamp g.P.Plot.terms s c.args.entry.now g.kept) (sym c.hand.view_is) c.requires.1.1.1.1.1.1)),
  c.hand.invariant.sound.alive,
)

pub links_after-hand-inside-requires-clause-takes : goal.links_after-hand-inside-requires-clause-takes
links_after-hand-inside-requires-clause-takes g c is = takes_some g.P.Plot.terms _ _ _ _ _ c.args.entry.now g.kept c.hand.invariant (subst (λ (s : HandState g.row.P-Draft.Denot g.row.P-Part.Denot g.row.P-Ground.Denot). CanStamp g.P.Plot.terms s c.args.entry.now g.kept) (sym c.hand.view_is) c.requires.1.1.1.1.1.1) (sym (c.tied-tied.ensures c.hand.inside.seat.me.0.base.grounds) ∙ is)

pub invariant_of-hand : goal.invariant_of-hand
invariant_of-hand g c = let s = state_of c.stamp_as-number.new.seat.table_id c.hand.inside.number c.hand.inside.refused c.stamp_as-number.new.seat.me.0 in
    subst (λ (n : ℕ). IsHand g.P.Plot.terms s c.stamp_as-number.new.seat.me (Rattle.std.proofs.Common.◌-◌ c.hand.inside.left 1) c.hand.inside.turns n)
    (sym (c.links_after-hand-inside.ensures ∙ ap (λ (y : Tied). tallied y c.hand.inside.links) (c.tied-tied.ensures c.hand.inside.seat.me.0.base.grounds)))
    (fits_stamped g.P.Plot.terms _ _ _ _ _ _ _ _ _ _ c.args.entry.now g.kept c.hand.invariant c.stamp_as-number.ensures.same.0 (subst (λ (s : HandState g.row.P-Draft.Denot g.row.P-Part.Denot g.row.P-Ground.Denot). CanStamp g.P.Plot.terms s c.args.entry.now g.kept) (sym c.hand.view_is) c.requires.1.1.1.1.1.1) (c.stamp_as-number.ensures.stamped (record { entry = c.args.entry.now; kept = g.kept }) refl) c.stamp_as-number.ensures.same.2)

pub returns-clause-stamped : goal.returns-clause-stamped
returns-clause-stamped g c = subst (λ (s : HandState g.row.P-Draft.Denot g.row.P-Part.Denot g.row.P-Ground.Denot). Stamped g.P.Plot.terms c.args.entry.now g.kept s c.stamp_as-number.result (state_of c.stamp_as-number.new.seat.table_id c.hand.inside.number c.hand.inside.refused c.stamp_as-number.new.seat.me.0)) c.hand.view_is
    (stamped_state g.P.Plot.terms _ _ _ _ c.hand.inside.seat.me c.stamp_as-number.new.seat.me _ _ _ _ c.args.entry.now g.kept c.hand.invariant c.stamp_as-number.ensures.same.0 (c.stamp_as-number.ensures.stamped (record { entry = c.args.entry.now; kept = g.kept }) refl))

pub returns-clause-sound : goal.returns-clause-sound
returns-clause-sound g c = (invariant_of-hand g c).sound
