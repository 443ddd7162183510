use Rattle.std.proofs.Common.{sym, subst}
use Rattle.eleos_machine.specs.Passes.{PassState}
use Rattle.eleos_pages.specs.Held.{EntersHeld}
use Rattle.eleos_pages.proofs.Ending.{ends, turn_stays}
use Rattle.eleos_pages.proofs.ends.end.Goals as goal

pub returns : goal.returns
returns g c = subst (λ (s : PassState). EntersHeld c.args.pass.now c.args.cell c.args.pass.now.draft s) (sym c.give.ensures)
    (ends c.args.pass.now c.stamp.new.pass c.args.cell c.stamp.result c.requires.may c.stamp.ensures.stamped c.stamp.ensures.lawful)

pub give-requires-clause-held : goal.give-requires-clause-held
give-requires-clause-held g c = turn_stays c.args.pass.now c.stamp.new.pass c.stamp.result c.args.cell c.stamp.ensures.stamped c.requires.may.turn
