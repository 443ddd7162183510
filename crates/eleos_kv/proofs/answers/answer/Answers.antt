use Rattle.std.proofs.Common.{◌≡◌, sym, ap, ◌∙◌, subst}
use Rattle.eleos_direct.specs.Desks.{IsAtDesk}
use Rattle.eleos_machine.specs.Passes.{IsLawful, PassState}
use Rattle.eleos_kv.specs.Cells.{CellState, IsCell, MakesCalls}
use Rattle.eleos_kv.proofs.Answering.{at_desk, cell_after}
use Rattle.eleos_kv.proofs.answers.answer.Goals as goal

pub invariant_of-cell : goal.invariant_of-cell
invariant_of-cell g c =
    let z = c.args.machine.now in let cell : CellState = record { pass = c.cell.inside.rest; shard = c.cell.inside.shard } in let pass = c.wake-pass.result in let pass' = c.answer_at-reply.new.pass in let r = c.answer_at-reply.ensures in
    let at : IsAtDesk z pass = at_desk g.P.HostPort.gave g.P.HostPort.took z cell pass c.cell.invariant (ap (λ (x : CellState). x.pass.hand.home) c.cell.view_is ∙ c.requires.home) c.wake-pass.ensures.same in
    let lawful' : IsLawful pass' = subst IsLawful c.rest.ensures.same c.rest.ensures.lawful in
    let calls : MakesCalls pass = subst MakesCalls (sym c.wake-pass.ensures.same) c.cell.invariant.calls in
    subst (λ (p : PassState). IsCell g.P.HostPort.gave g.P.HostPort.took (record { pass = p; shard = c.answer_at-reply.new.shard })) (sym c.rest.ensures.same)
    (cell_after z pass pass' at r.at c.wake-pass.ensures.lawful lawful' calls g.P.HostPort.gave g.P.HostPort.took c.args.act.now c.cell.inside.shard c.answer_at-reply.new.shard c.answer_at-reply.result r.serves r.err r.shard r.exchanged)
