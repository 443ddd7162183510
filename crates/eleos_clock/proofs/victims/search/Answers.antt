use Rattle.std.proofs.Common.{false, None, Some, sym, subst}
use Rattle.eleos_machine.specs.Notes.{Sweep, free_notes}
use Rattle.eleos_clock.specs.Answered.{Rounds}
use Rattle.eleos_clock.proofs.Noted.{notes_kept}
use Rattle.eleos_clock.specs.Lists.{AreNotes}
use Rattle.eleos_clock.proofs.Rounding.{may_on}
use Rattle.eleos_clock.proofs.Searching.{idles_round, idles_rounds}
use Rattle.eleos_clock.proofs.victims.search.Goals as goal

pub round-requires-clause-may : goal.round-requires-clause-may
round-requires-clause-may g c = may_on c.args.m.now c.args.pass.now c.first_free.new.pass c.args.clock.now c.requires.may c.in_default.ensures.0 c.in_default.ensures.1

pub round-requires-clause-notes : goal.round-requires-clause-notes
round-requires-clause-notes g c = subst (λ (w : Sweep). AreNotes c.args.clock.now.clock c.args.free (free_notes w.words)) (sym c.in_default.ensures.2) c.requires.notes

pub returns-in-Some-round : goal.returns-in-Some-round
returns-in-Some-round g c = idles_round c.args.pass.now c.first_free.new.pass c.round.new.pass c.args.clock.now c.args.free false (Some c.in-Some-round.at) c.left.ensures.lawful c.in_default.ensures c.in-Some-round.ensures

pub round-requires-2-clause-may : goal.round-requires-2-clause-may
round-requires-2-clause-may g c =
    let p : Rounds c.args.pass.now c.args.clock.now c.args.free false None c.round.new.pass = idles_round c.args.pass.now c.first_free.new.pass c.round.new.pass c.args.clock.now c.args.free false None c.left.ensures.lawful c.in_default.ensures c.in_default-round.ensures in
    may_on c.args.m.now c.args.pass.now c.round.new.pass c.args.clock.now c.requires.may p.searches p.turns

pub round-requires-2-clause-notes : goal.round-requires-2-clause-notes
round-requires-2-clause-notes g c = notes_kept c.args.clock.now.clock c.args.free c.round.new.pass.sweep.words c.in_default-round.ensures.notes

pub returns : goal.returns
returns g c = idles_rounds c.args.pass.now c.first_free.new.pass c.round.new.pass c.round-2.new.pass c.args.clock.now c.args.free c.round-2.result c.left.ensures.lawful c.in_default.ensures c.in_default-round.ensures c.round-2.ensures
