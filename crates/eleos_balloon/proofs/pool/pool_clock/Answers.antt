use Rattle.std.proofs.Common.{◌∙◌, ap, None}
use Rattle.eleos_base.specs.declared.plan.Plan.{Plan}
use Rattle.eleos_core.specs.Parts.{clock_cell}
use Rattle.eleos_balloon.proofs.PoolTurns.{holds, took_pool}
use Rattle.eleos_balloon.proofs.pool.pool_clock.Goals as goal

pub of-requires : goal.of-requires
of-requires g c = holds c.args.m.now c.args.pass.now c.clock_cell-number.result c.take-taken.result.word c.take-taken.result.value c.take-taken.new.pass c.requires.own c.requires.made
    (c.clock_cell-number.ensures ∙ ap (λ (k : Plan). clock_cell k None) c.plan.ensures.plan) c.take-taken.ensures.took

pub returns : goal.returns
returns g c = took_pool c.args.m.now c.args.pass.now c.clock_cell-number.result c.take-taken.result.word c.take-taken.result.value c.take-taken.new.pass c.requires.own c.requires.made
    (c.clock_cell-number.ensures ∙ ap (λ (k : Plan). clock_cell k None) c.plan.ensures.plan) c.take-taken.ensures.took c.of.result c.take-taken.ensures.lawful c.of.ensures.number c.of.ensures.cell
