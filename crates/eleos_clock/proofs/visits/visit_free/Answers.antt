use Rattle.std.proofs.Common.{sym, ◌∙◌, ap}
use Rattle.eleos_core.specs.Parts.{frame_cell}
use Rattle.eleos_machine.specs.Machines.{Site, plan_at}
use Rattle.eleos_clock.proofs.Visiting.{passes_free}
use Rattle.eleos_clock.proofs.visits.visit_free.Goals as goal

pub returns : goal.returns
returns g c = λ all. passes_free c.args.pass.now c.args.found c.args.free all c.frame_cell.result c.sweep_free.new.pass c.give.new.pass c.left.ensures.lawful c.if-free.false c.requires.unnoted
    (c.frame_cell.ensures ∙ ap (λ (y : Site). frame_cell (plan_at y) c.args.found.frame) (sym c.requires.look.own)) c.sweep_free.ensures c.give.ensures
