use Rattle.std.proofs.Common.{◌∙◌, ap, sym}
use Rattle.eleos_core.specs.Parts.{frame_cell}
use Rattle.eleos_machine.specs.Machines.{Site, plan_at}
use Rattle.eleos_clock.proofs.Noting.{noted_free}
use Rattle.eleos_clock.proofs.frees.note.Goals as goal

pub returns : goal.returns
returns g c = noted_free c.args.pass.now c.args.found.frame c.frame_cell.result c.sweep_free.new.pass c.give.new.pass c.left.ensures.lawful c.requires.unnoted
    (c.frame_cell.ensures ∙ ap (λ (y : Site). frame_cell (plan_at y) c.args.found.frame) (sym c.requires.own)) c.sweep_free.ensures c.give.ensures
