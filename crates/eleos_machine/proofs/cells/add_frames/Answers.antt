use Rattle.std.proofs.Common.{◌∷◌, ◌++◌, [], map, sym, ap, ◌∙◌, append_assoc}
use Rattle.eleos_core.specs.declared.cells.frame.Frame.{Frame as Frames}
use Rattle.eleos_core.specs.Cells.{IsUse, part_of_frame}
use Rattle.eleos_base.specs.Places.{all_pages}
use Rattle.eleos_plot.specs.declared.cell.Cell.TheVariants.{Frame}
use Rattle.eleos_plot.specs.Cells.{part_of_cell}
use Rattle.eleos_plot.proofs.Fitting.{cells_show}
use Rattle.eleos_machine.proofs.Listed.{map_more, one_of}
use Rattle.eleos_machine.proofs.cells.add_frames.Goals as goal

pub loop-frame-preserved : goal.loop-frame-preserved
loop-frame-preserved c =
    let rest = c.loop-frame.invariant.1 ∙ ap (λ z. c.loop-frame.yielded ++ z) c.in-Some.ensures.steps.0 in
    let used = one_of (λ (frame : Frames). IsUse (all_pages c.args._plan.now) frame.used) c.args.frames.items c.loop-frame.yielded c.in-Some.frame c.next.new.self.rest.items rest c.requires in
    let shown = (cells_show c.args._plan.now).frames c.in-Some.frame used in (
      ap (map part_of_cell) c.in_ok-push.ensures.items
          ∙ (map_more part_of_cell c.loop-frame.cells.items (Frame c.in-Some.frame)
          ∙ ((λ i. c.loop-frame.invariant.0 i ++ shown i ∷ [])
          ∙ (append_assoc (map part_of_cell c.args.cells.now.items) (map part_of_frame c.loop-frame.yielded) (part_of_frame c.in-Some.frame ∷ [])
          ∙ ap (λ z. map part_of_cell c.args.cells.now.items ++ z) (sym (map_more part_of_frame c.loop-frame.yielded c.in-Some.frame))))),
      rest ∙ sym (append_assoc c.loop-frame.yielded (c.in-Some.frame ∷ []) c.next.new.self.rest.items),
    )
