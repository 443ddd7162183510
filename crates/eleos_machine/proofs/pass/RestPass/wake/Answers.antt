use Rattle.std.proofs.Common.{sym, ap, subst}
use Rattle.eleos_machine.specs.Machines.{IsMachine}
use Rattle.eleos_machine.proofs.Lawful.{lawful}
use Rattle.eleos_machine.proofs.pass.RestPass.wake.Goals as goal

pub returns-clause-lawful : goal.returns-clause-lawful
returns-clause-lawful c = lawful _ (subst IsMachine (sym (ap (λ h. h.home) c.wake.ensures.same)) c.self.invariant.0) c.wake.ensures.sound
