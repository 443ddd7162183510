use Rattle.std.proofs.Common.{sym, ◌∙◌, ap}
use Rattle.eleos_core.specs.Seals.{seals_by}
use Rattle.eleos_meaning.specs.Meanings.{meaning_of}
use Rattle.eleos_top.specs.Scenes.{all_names, names_of}
use Rattle.eleos_top.proofs.Answering.{answered_if, acted}
use Rattle.eleos_top.proofs.Within.{within}
use Rattle.eleos_top.proofs.sessions.Session.answer.Goals as goal

pub happen-requires-clause-within : goal.happen-requires-clause-within
happen-requires-clause-within g c = rw (c.requires.stands.1.plan, c.who_of-who.ensures)
    (within c.args.plan.now _ c.args.line.now.actor c.args.line.now.command c.in-Happens.event c.requires.given
    (rw c.who_of-who.ensures at (rw c.deref.ensures.value at (sym c.in_ok-meaning_for.ensures.meaning ∙ c.in-Happens.is))))

pub returns-in-Happens-clause-answered : goal.returns-in-Happens-clause-answered
returns-in-Happens-clause-answered g c =
    answered_if c.args.plan.now (seals_by c.args.self.now.sealer) c.args.self.now c.happen.new.self c.args.line.now c.in-Happens.event c.happen.result
    (g.P.HostStore.store c.args.host.now) (g.P.HostStore.store c.happen.new.host) c.requires.stands.1.plan c.requires.good
    (rw c.who_of-who.ensures at (rw c.deref.ensures.value at (sym c.in_ok-meaning_for.ensures.meaning ∙ c.in-Happens.is))) (rw c.who_of-who.ensures at c.happen.ensures.happened)

pub returns-in-Acts-clause-answered : goal.returns-in-Acts-clause-answered
returns-in-Acts-clause-answered g c =
    acted c.args.plan.now (seals_by c.args.self.now.sealer) c.args.self.now c.args.self.now c.args.line.now c.in-Acts.meant c.act.result
    (g.P.HostStore.store c.args.host.now) (g.P.HostStore.store c.act.new.host)
    (rw c.who_of-who.ensures at (rw c.deref.ensures.value at (sym c.in_ok-meaning_for.ensures.meaning ∙ c.in-Acts.is))) c.act.ensures.store c.act.ensures.is_done
