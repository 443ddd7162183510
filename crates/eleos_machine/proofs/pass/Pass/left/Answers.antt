use Rattle.std.proofs.Common.{subst}
use Rattle.eleos_machine.specs.Passes.{IsLawful}
use Rattle.eleos_machine.proofs.Lawful.{lawful}
use Rattle.eleos_machine.proofs.pass.Pass.left.Goals as goal

pub returns-clause-lawful : goal.returns-clause-lawful
returns-clause-lawful c = subst IsLawful c.self.view_is (lawful _ c.self.invariant.0 c.left.ensures.sound)
