use Rattle.std.proofs.Common.{◌≡◌, ◌∙◌, slice_set, map, arith, []}
use Rattle.eleos_core.specs.Applying.{put_of}
use Rattle.eleos_base.specs.Places.{all_pages}
use Rattle.eleos_core.specs.Cells.{Cells, cells_of}
use Rattle.eleos_core.specs.Seals.{seals_by, Seals}
use Rattle.eleos_core.proofs.Evicting.{can_leave, evict_made, evict_sent, page_left, use_within}
use Rattle.eleos_core.proofs.PlaceNumbers.{most_pages}
use Rattle.eleos_core.proofs.TwoCells.{core_with_both}
use Rattle.eleos_base.specs.declared.memory.Reply.TheVariants.{Done}
use Rattle.eleos_core.specs.declared.event.Event.TheVariants.{Evict}
use Rattle.eleos_core.proofs.FrameEvents.{evict_applied, evict_illegal}
use Rattle.eleos_core.proofs.Effects.{came, refused, set_back, wanting}
use Rattle.eleos_core.proofs.machine.Core.apply_evict.Goals as goal

pub returns-in-Some : goal.returns-in-Some
returns-in-Some g c = λ who actor.
    let x : Seals = seals_by (g.S.Sealer.key c.args.sealer.now) in
    refused x c.args.self.now who (Evict c.args.page c.args.frame) [] c.in-Some.part (evict_illegal x c.args.self.now who c.args.page c.args.frame c.in-Some.part c.requires.page c.in-Some.ensures)

pub overflow_mul-page : goal.overflow_mul-page
overflow_mul-page g c =
    let most = most_pages c.self.inside.plan c.self.invariant.good in
    let exists = rw (← c.self.view_is) at c.requires.page in
    omega arith

pub leave-requires-clause-first : goal.leave-requires-clause-first
leave-requires-clause-first g c =
    let most = most_pages c.self.inside.plan c.self.invariant.good in
    let exists = rw (← c.self.view_is) at c.requires.page in
    omega arith

pub leave-requires-clause-page : goal.leave-requires-clause-page
leave-requires-clause-page g c = can_leave c.self.inside.plan c.self.inside.live.items c.self.inside.clocks.items c.self.inside.pages.items c.self.inside.frames.items c.self.inside.links.items c.self.invariant
    c.args.page c.args.frame c.index_mut-left.result.now c.index_mut-freed.result.now (rw (← c.self.view_is) at c.requires.page) (rw (← c.self.view_is) at c.requires.frame) c.index_mut-left.ensures.value c.index_mut-freed.ensures.value
    (rw (← c.self.view_is) at c.in_default.ensures).present

pub invariant_of-self-2 : goal.invariant_of-self-2
invariant_of-self-2 g c =
    let k = c.self.inside.plan in
    let page_exists = rw (← c.self.view_is) at c.requires.page in
    let frame_exists = rw (← c.self.view_is) at c.requires.frame in
    core_with_both k c.self.inside.live.items c.self.inside.clocks.items c.self.inside.pages.items c.self.inside.frames.items c.self.inside.links.items c.self.invariant
    c.args.page c.leave.new.page c.args.frame c.leave.new.frame
    (page_left k c.self.inside.live.items c.self.inside.clocks.items c.self.inside.pages.items c.self.inside.frames.items c.self.inside.links.items c.self.invariant
    c.args.page c.args.frame c.index_mut-left.result.now c.index_mut-freed.result.now page_exists frame_exists c.index_mut-left.ensures.value c.index_mut-freed.ensures.value
    (rw (← c.self.view_is) at c.in_default.ensures).present (seals_by (g.S.Sealer.key c.args.sealer.now)) c.leave.new.page c.leave.new.frame c.in_ok-puts.ensures.page c.in_ok-puts.ensures.frame)
    (use_within (all_pages k) c.leave.new.frame.used c.in_ok-puts.ensures.zero)

pub returns-in_err-puts : goal.returns-in_err-puts
returns-in_err-puts g c = λ who actor.
    let s = c.self.inside in
    let left : Cells = cells_of s.plan s.live.items s.clocks.items (slice_set s.pages.items c.args.page c.leave.new.page) (slice_set s.frames.items c.args.frame c.leave.new.frame) s.links.items in
    let same : left ≡ c.args.self.now = (λ i. cells_of s.plan s.live.items s.clocks.items
    (set_back s.pages.items c.args.page c.index_mut-left.result.now c.leave.new.page c.index_mut-left.ensures.value c.in_err-puts.ensures.err_page i)
    (set_back s.frames.items c.args.frame c.index_mut-freed.result.now c.leave.new.frame c.index_mut-freed.ensures.value c.in_err-puts.ensures.err_frame i) s.links.items) ∙ c.self.view_is in
    wanting (seals_by (g.S.Sealer.key c.args.sealer.now)) c.args.self.now who (Evict c.args.page c.args.frame) [] c.from_residual.result left c.from_residual.ensures.1 same c.in_default.ensures

pub returns : goal.returns
returns g c = λ who actor.
    let x : Seals = seals_by (g.S.Sealer.key c.args.sealer.now) in
    let page_exists = rw (← c.self.view_is) at c.requires.page in
    let frame_exists = rw (← c.self.view_is) at c.requires.frame in
    rw (← c.self.view_is) (came x _ who (Evict c.args.page c.args.frame) [] _ (record { reply = Done; puts = c.of.result })
    (evict_applied x _ _ who c.args.page c.args.frame c.of.result page_exists (rw (← c.self.view_is) at c.in_default.ensures)
    (evict_made c.self.inside.plan c.self.inside.live.items c.self.inside.clocks.items c.self.inside.pages.items c.self.inside.frames.items c.self.inside.links.items c.self.invariant
    c.args.page c.args.frame c.index_mut-left.result.now c.index_mut-freed.result.now page_exists frame_exists c.index_mut-left.ensures.value c.index_mut-freed.ensures.value
    (rw (← c.self.view_is) at c.in_default.ensures).present (seals_by (g.S.Sealer.key c.args.sealer.now)) c.leave.new.page c.leave.new.frame c.in_ok-puts.ensures.page c.in_ok-puts.ensures.frame who (rw (← c.self.view_is) at actor))
    (rw c.of.ensures (evict_sent c.self.inside.plan c.self.inside.live.items c.self.inside.clocks.items c.self.inside.pages.items c.self.inside.frames.items c.self.inside.links.items c.self.invariant
    c.args.page c.args.frame c.index_mut-left.result.now c.index_mut-freed.result.now page_exists frame_exists c.index_mut-left.ensures.value c.index_mut-freed.ensures.value
    (rw (← c.self.view_is) at c.in_default.ensures).present (seals_by (g.S.Sealer.key c.args.sealer.now)) who (map put_of c.in_ok-puts.puts.items) c.in_ok-puts.ensures.puts)))
    (rw c.of.ensures c.in_ok-puts.ensures.blocks))
