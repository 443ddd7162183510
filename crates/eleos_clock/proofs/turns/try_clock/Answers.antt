use Rattle.std.proofs.Common.{◌∙◌, ap, Some}
use Rattle.eleos_base.specs.declared.plan.Plan.{Plan}
use Rattle.eleos_core.specs.Parts.{clock_cell}
use Rattle.eleos_clock.proofs.TakenClocks.{holds, took_clock}
use Rattle.eleos_clock.proofs.turns.try_clock.Goals as goal

pub of-requires : goal.of-requires
of-requires g c = holds c.args.m.now c.args.pass.now c.args.enclave c.clock_cell-number.result _ _ c.try_take.new.pass c.requires.own c.requires.enclave c.requires.made
    (c.clock_cell-number.ensures ∙ ap (λ (k : Plan). clock_cell k (Some c.args.enclave)) c.plan.ensures.plan) c.in_ok-taken.ensures.took

pub returns-clause-took : goal.returns-clause-took
returns-clause-took g c = took_clock c.args.m.now c.args.pass.now c.args.enclave c.clock_cell-number.result _ _ c.try_take.new.pass c.requires.own c.requires.enclave c.requires.made
    (c.clock_cell-number.ensures ∙ ap (λ (k : Plan). clock_cell k (Some c.args.enclave)) c.plan.ensures.plan) c.in_ok-taken.ensures.took c.of.result c.try_take.ensures.lawful c.of.ensures.number c.of.ensures.cell
