use Rattle.std.proofs.Common.{◌≡◌, Option, Some, None, Err, refl, sym, ap, ◌∙◌}
use Rattle.std.specs.Prelude.{IsNone}
use Rattle.eleos_machine.specs.declared.judging.PlanField.{PlanField}
use Rattle.eleos_run.proofs.PlanRooms.{run_can_be_made}
use Rattle.eleos_run.proofs.runs.run.Goals as goal

is_none : (found : Option PlanField) → IsNone found → found ≡ None
is_none None none = refl
is_none (Some field) none = absurd cc

not_some : (field : PlanField) → None ≡ Some field → ⊥
not_some field is = cc

pub unreachable-requires-in_default-fault_of : goal.unreachable-requires-in_default-fault_of
unreachable-requires-in_default-fault_of g c = c.in_default-fault_of.not-None (is_none c.fault_of.result (c.fault_of.ensures.none.1 (run_can_be_made c.args.trace.now c.requires)))

pub unreachable-requires-in-Err-BadPlan : goal.unreachable-requires-in-Err-BadPlan
unreachable-requires-in-Err-BadPlan g c = not_some c.in-Err-BadPlan.field-0-0
    (sym c.in-None.is ∙ (c.fault_of.ensures.first ∙ (c.make.ensures.bad_plan c.in-Err-BadPlan.field-0-0).0 (c.in-Err-BadPlan.is ∙ ap Err c.in-Err-BadPlan.field-0-is)))
