use Rattle.std.proofs.Common.{◌↔◌, Option, IsNone, sym, subst}
use Rattle.eleos_machine.specs.declared.judging.PlanField.{PlanField}
use Rattle.eleos_machine.specs.Judging.{CanBeMade}
use Rattle.eleos_machine.proofs.Judged.{none_bad}
use Rattle.eleos_machine.proofs.judging.fault_of.Goals as goal

pub returns-clause-none : goal.returns-clause-none
returns-clause-none c = subst (λ (o : Option PlanField). IsNone o ↔ CanBeMade c.args.plan.now) (sym c.first_fault.ensures) (none_bad c.args.plan.now)
