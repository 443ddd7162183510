use Rattle.std.proofs.Common.{◌++◌, map, ap, ◌∙◌, subst}
use Rattle.std.specs.List.{AllByRecursion}
use Rattle.eleos_base.specs.declared.plan.Plan.{Plan}
use Rattle.eleos_core.specs.declared.cells.frame.Frame.{Frame}
use Rattle.eleos_core.specs.Cells.{IsUse, part_of_frame, part_of_page}
use Rattle.eleos_core.specs.Parts.{alloc_part, clock_part}
use Rattle.eleos_base.specs.Places.{all_pages}
use Rattle.eleos_plot.specs.Cells.{part_of_cell}
use Rattle.eleos_machine.proofs.CellsInOrder.{opening_of}
use Rattle.eleos_machine.proofs.cells.in_order.Goals as goal

pub add_frames-requires : goal.add_frames-requires
add_frames-requires c = subst (λ (k : Plan). AllByRecursion (λ (frame : Frame). IsUse (all_pages k) frame.used) c.into_cells-live.result.frames.items) c.requires.plan c.into_cells-live.ensures.core.each_frame

pub returns : goal.returns
returns c =
    let live = c.into_cells-live.result in
    let none = ap (map part_of_cell) c.new-cells.ensures.items in
    opening_of c.args._plan.now c.args.core live.live.items live.clocks.items live.pages.items live.frames.items (map part_of_cell c.add_frames.new.cells.items) c.requires.plan c.into_cells-live.ensures.cells c.into_cells-live.ensures.core c.requires.shown
    (c.in_ok-add_frames.ensures ∙ ap (λ z. z ++ map part_of_frame live.frames.items)
    (c.in_ok-add_pages.ensures ∙ ap (λ z. z ++ map part_of_page live.pages.items)
    (c.in_ok-add_clocks.ensures ∙ ap (λ z. z ++ map clock_part live.clocks.items)
    (c.in_ok-add_allocs.ensures ∙ ap (λ z. z ++ map alloc_part live.live.items) none))))
