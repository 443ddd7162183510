use Rattle.std.proofs.Common.{refl, sym, subst}
use Rattle.eleos_machine.specs.Machines.{plan_at}
use Rattle.eleos_clock.specs.declared.found.Found.{Found}
use Rattle.eleos_spointer.specs.Brought.{Frees, HasFound}
use Rattle.eleos_spointer.proofs.Putting.{is_actor}
use Rattle.eleos_spointer.proofs.bringing.free.Goals as goal

pub evict-requires-clause-actor : goal.evict-requires-clause-actor
evict-requires-clause-actor g c = is_actor (plan_at c.args.m.now) c.args.pass.now.hand.number c.requires.caller

pub evict-requires-clause-has : goal.evict-requires-clause-has
evict-requires-clause-has g c = subst (HasFound c.args.pass.now) c.in-Sole.is c.requires.has

pub returns-in-Free : goal.returns-in-Free
returns-in-Free g c = subst (λ (y : Found). Frees g.P.HostPort g.P.HostStore c.args.pass.now c.args.tap.now y c.in-Free.frame c.args.pass.now c.args.tap.now) (sym c.in-Free.is) (refl, refl, refl)

pub returns-in-Sole : goal.returns-in-Sole
returns-in-Sole g c = subst (λ (y : Found). Frees g.P.HostPort g.P.HostStore c.args.pass.now c.args.tap.now y c.evict.result.0 c.evict.new.pass c.evict.new.tap) (sym c.in-Sole.is) (c.evict.result.1, c.evict.ensures)
