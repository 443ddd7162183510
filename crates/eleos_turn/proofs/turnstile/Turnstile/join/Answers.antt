use Rattle.std.proofs.Common.{[], ◌++◌, Option, ap, ◌∙◌, subst}
use Rattle.atomic_table.specs.Table.{Me}
use Rattle.eleos_turn.specs.declared.view.View.{View}
use Rattle.eleos_turn.specs.Views.{observed}
use Rattle.eleos_turn.specs.Plays.{SeesMore}
use Rattle.eleos_turn.proofs.Fits.{fits_heard}
use Rattle.eleos_turn.proofs.turnstile.Turnstile.join.Goals as goal

pub invariant_of-into : goal.invariant_of-into
invariant_of-into g c = let heard = c.observe.ensures.heard in let view = c.into_seat.ensures.view in let was = c.into.inside.seat.me.0 in
    fits_heard g.P.Plot.terms _ _ _ _ _ _ _ _ _ c.args.other heard.0 c.into.invariant c.observe.ensures.same.0 c.into_seat.ensures.sound c.requires.split
    (heard.1 ∙ ap (λ (y : Me (Option g.row.P-Cell.Denot) (View g.row.P-Draft.Denot g.row.P-Part.Denot g.row.P-Ground.Denot)). record (observed was y.0) { seen = was.seen ++ heard.0; told = [] }) view)
    (subst (λ (y : Me (Option g.row.P-Cell.Denot) (View g.row.P-Draft.Denot g.row.P-Part.Denot g.row.P-Ground.Denot)). SeesMore g.P.Plot.terms (observed was y.0) heard.0) view heard.2) heard.3 c.observe.ensures.same.2

pub returns-clause-sound : goal.returns-clause-sound
returns-clause-sound g c = (invariant_of-into g c).sound
