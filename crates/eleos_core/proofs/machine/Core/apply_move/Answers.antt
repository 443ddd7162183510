use Rattle.std.proofs.Common.{◌≡◌, ◌∙◌, refl, sym, subst, slice_set, []}
use Rattle.eleos_core.specs.Applying.{Makes}
use Rattle.eleos_core.specs.Cells.{Cells, cells_of}
use Rattle.eleos_core.specs.Moves.{move_stamp}
use Rattle.eleos_core.specs.declared.cells.frame.Frame.{Frame}
use Rattle.eleos_core.proofs.Moving.{lists_moved, move_made}
use Rattle.eleos_base.specs.declared.memory.Reply.TheVariants.{Done}
use Rattle.eleos_core.specs.declared.event.Event.TheVariants.{Move}
use Rattle.eleos_core.proofs.FrameEvents.{move_applied, move_illegal}
use Rattle.eleos_core.proofs.Effects.{answered, came, refused, set_back, wanting}
use Rattle.eleos_core.proofs.machine.Core.apply_move.Goals as goal

pub returns-in-Some : goal.returns-in-Some
returns-in-Some c = λ x who actor.
    refused x c.args.self.now who (Move c.args.frame c.args.from c.args.to) [] c.in-Some.part (move_illegal x c.args.self.now who c.args.frame c.args.from c.args.to c.in-Some.part c.requires.frame c.in-Some.ensures)

pub returns-in_err-add_last : goal.returns-in_err-add_last
returns-in_err-add_last c = λ x who actor.
    let s = c.self.inside in
    let left : Cells = cells_of s.plan s.live.items (slice_set s.clocks.items c.clock_place-joined.result c.add_last.new.clock) s.pages.items s.frames.items s.links.items in
    let same : left ≡ c.args.self.now = (λ i. cells_of s.plan s.live.items
    (set_back s.clocks.items c.clock_place-joined.result c.index_mut.result.now c.add_last.new.clock c.index_mut.ensures.value c.in_err-add_last.ensures.err i) s.pages.items s.frames.items s.links.items) ∙ c.self.view_is in
    wanting x c.args.self.now who (Move c.args.frame c.args.from c.args.to) [] c.from_residual.result left c.from_residual.ensures.1 same c.in_default.ensures

pub returns : goal.returns
returns c = λ x who actor.
    let exists = rw (← c.self.view_is) at c.requires.frame in
    let from_is = rw (← c.self.view_is) at c.requires.from in
    let to_is = rw (← c.self.view_is) at c.requires.to in
    let moved : Frame = record { owner = c.args.to; used = c.index_mut-3.result.now.used } in
    let lists = lists_moved c.self.inside.plan c.self.inside.live.items c.self.inside.clocks.items c.self.inside.pages.items c.self.inside.frames.items c.self.inside.links.items c.self.invariant
    c.args.frame c.args.from c.args.to exists from_is to_is c.requires.one_is_pool
    c.clock_place-joined.result c.clock_place-left.result c.index_mut.result.now c.add_last.new.clock c.index_mut-2.result.now c.remove.new.clock
    c.clock_place-joined.ensures c.clock_place-left.ensures c.index_mut.ensures.value c.in_ok-add_last.ensures.ok c.index_mut-2.ensures.value c.remove.ensures in
    rw (← c.self.view_is) (came x _ who (Move c.args.frame c.args.from c.args.to) [] _ c.only_reply.result
    (answered x _ who (Move c.args.frame c.args.from c.args.to) [] _ Done c.only_reply.result.reply c.only_reply.result.puts
    c.only_reply.ensures.reply c.only_reply.ensures.puts
    (move_applied x _ _ who c.args.frame c.args.from c.args.to
    (subst (λ clocks. Makes x (move_stamp who c.args.frame c.args.from c.args.to) (cells_of c.self.inside.plan c.self.inside.live.items c.self.inside.clocks.items c.self.inside.pages.items c.self.inside.frames.items c.self.inside.links.items)
    (cells_of c.self.inside.plan c.self.inside.live.items clocks c.self.inside.pages.items (slice_set c.self.inside.frames.items c.args.frame moved) c.self.inside.links.items)) (sym lists)
    (move_made c.self.inside.plan c.self.inside.live.items c.self.inside.clocks.items c.self.inside.pages.items c.self.inside.frames.items c.self.inside.links.items c.self.invariant
    c.args.frame c.args.from c.args.to exists from_is to_is c.requires.one_is_pool c.index_mut-3.result.now moved c.index_mut-3.ensures.value refl refl
    x who (rw (← c.self.view_is) at actor) (rw (← c.self.view_is) at c.in_default.ensures)))))
    c.only_reply.ensures.blocks)
