use Rattle.std.proofs.Common.{arith, ap, ◌∙◌, sym, subst, ◌<◌}
use Rattle.eleos_core.specs.Parts.{frame_cell}
use Rattle.eleos_base.specs.Places.{all_frames}
use Rattle.eleos_machine.specs.Machines.{Site, plan_at}
use Rattle.eleos_machine.proofs.FewCells.{few_frames, few_pages}
use Rattle.eleos_machine.proofs.machine.Machine.frame_cell.Goals as goal

pub overflow_add-result : goal.overflow_add-result
overflow_add-result g c =
    let z = c.self.inside.turnstile in
    let good = c.self.invariant.0.made.good in
    let first = c.self.invariant.3 ∙ ap (λ k. frame_cell k 0) c.self.invariant.1 in
    let pages = few_pages (plan_at z) good in let frames = few_frames (plan_at z) good in let few = good.enclaves in
    let within = subst (λ (y : Site). c.args.frame < all_frames (plan_at y)) (sym c.self.view_is) c.requires in
    omega (arith, first, pages, frames, few, within)
