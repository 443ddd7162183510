use Rattle.std.proofs.Common.{arith}
use Rattle.eleos_base.specs.Places.{all_pages}
use Rattle.eleos_core.specs.Seals.{seals_by, Seals}
use Rattle.eleos_core.proofs.Entering.{fill_absent, fill_fit, fill_free, fill_judged, fill_made, fill_whole, page_entered, use_among}
use Rattle.eleos_core.proofs.PlaceNumbers.{most_pages}
use Rattle.eleos_core.proofs.TwoCells.{core_with_both}
use Rattle.eleos_core.specs.declared.event.Event.TheVariants.{Fill}
use Rattle.eleos_core.proofs.FrameEvents.{fill_applied, fill_illegal}
use Rattle.eleos_core.proofs.Effects.{answered, came, refused}
use Rattle.eleos_core.proofs.machine.Core.apply_fill.Goals as goal

pub returns-in-Some : goal.returns-in-Some
returns-in-Some g c = λ who actor.
    let x : Seals = seals_by (g.S.Sealer.key c.args.sealer.now) in
    refused x c.args.self.now who (Fill c.args.page c.args.frame) c.args.blocks.now c.in-Some.part
    (fill_illegal x c.args.self.now who c.args.page c.args.frame c.args.blocks.now c.in-Some.part c.requires.page c.in-Some.ensures)

pub enter-came-requires-clause-whole : goal.enter-came-requires-clause-whole
enter-came-requires-clause-whole g c =
    let page_exists = rw (← c.self.view_is) at c.requires.page in
    let frame_exists = rw (← c.self.view_is) at c.requires.frame in
    let legal = rw (← c.self.view_is) at c.in_default.ensures in
    fill_whole c.self.inside.plan c.self.inside.live.items c.self.inside.clocks.items c.self.inside.pages.items c.self.inside.frames.items c.self.inside.links.items c.self.invariant
    c.args.page c.args.frame c.index_mut-filled.result.now c.index_mut-lent.result.now page_exists frame_exists c.index_mut-filled.ensures.value c.index_mut-lent.ensures.value legal

pub enter-came-requires-clause-absent : goal.enter-came-requires-clause-absent
enter-came-requires-clause-absent g c =
    let page_exists = rw (← c.self.view_is) at c.requires.page in
    let frame_exists = rw (← c.self.view_is) at c.requires.frame in
    let legal = rw (← c.self.view_is) at c.in_default.ensures in
    fill_absent c.self.inside.plan c.self.inside.live.items c.self.inside.clocks.items c.self.inside.pages.items c.self.inside.frames.items c.self.inside.links.items c.self.invariant
    c.args.page c.args.frame c.index_mut-filled.result.now c.index_mut-lent.result.now page_exists frame_exists c.index_mut-filled.ensures.value c.index_mut-lent.ensures.value legal

pub enter-came-requires-clause-free : goal.enter-came-requires-clause-free
enter-came-requires-clause-free g c =
    let page_exists = rw (← c.self.view_is) at c.requires.page in
    let frame_exists = rw (← c.self.view_is) at c.requires.frame in
    let legal = rw (← c.self.view_is) at c.in_default.ensures in
    fill_free c.self.inside.plan c.self.inside.live.items c.self.inside.clocks.items c.self.inside.pages.items c.self.inside.frames.items c.self.inside.links.items c.self.invariant
    c.args.page c.args.frame c.index_mut-filled.result.now c.index_mut-lent.result.now page_exists frame_exists c.index_mut-filled.ensures.value c.index_mut-lent.ensures.value legal

pub enter-came-requires-clause-number : goal.enter-came-requires-clause-number
enter-came-requires-clause-number g c =
    let most = most_pages c.self.inside.plan c.self.invariant.good in
    let exists = rw (← c.self.view_is) at c.requires.page in
    omega arith

pub enter-came-requires-clause-fit : goal.enter-came-requires-clause-fit
enter-came-requires-clause-fit g c =
    let page_exists = rw (← c.self.view_is) at c.requires.page in
    let frame_exists = rw (← c.self.view_is) at c.requires.frame in
    let legal = rw (← c.self.view_is) at c.in_default.ensures in
    fill_fit c.self.inside.plan c.self.inside.live.items c.self.inside.clocks.items c.self.inside.pages.items c.self.inside.frames.items c.self.inside.links.items c.self.invariant
    c.args.page c.args.frame c.index_mut-filled.result.now c.index_mut-lent.result.now page_exists frame_exists c.index_mut-filled.ensures.value c.index_mut-lent.ensures.value legal c.args.blocks.now (rw (← c.self.view_is) at c.requires.blocks)

pub invariant_of-self : goal.invariant_of-self
invariant_of-self g c =
    let page_exists = rw (← c.self.view_is) at c.requires.page in
    let frame_exists = rw (← c.self.view_is) at c.requires.frame in
    let legal = rw (← c.self.view_is) at c.in_default.ensures in
    core_with_both c.self.inside.plan c.self.inside.live.items c.self.inside.clocks.items c.self.inside.pages.items c.self.inside.frames.items c.self.inside.links.items c.self.invariant
    c.args.page c.enter-came.new.page c.args.frame c.enter-came.new.frame
    (page_entered c.self.inside.plan c.self.inside.live.items c.self.inside.clocks.items c.self.inside.pages.items c.self.inside.frames.items c.self.inside.links.items c.self.invariant
    c.args.page c.args.frame c.index_mut-filled.result.now c.index_mut-lent.result.now page_exists frame_exists c.index_mut-filled.ensures.value c.index_mut-lent.ensures.value legal
    c.enter-came.new.page c.enter-came.ensures.subs c.enter-came.ensures.present)
    (use_among c.args.page (all_pages c.self.inside.plan) c.enter-came.new.frame.used page_exists c.enter-came.ensures.used)

pub returns : goal.returns
returns g c = λ who actor.
    let x : Seals = seals_by (g.S.Sealer.key c.args.sealer.now) in
    let page_exists = rw (← c.self.view_is) at c.requires.page in
    let frame_exists = rw (← c.self.view_is) at c.requires.frame in
    let legal = rw (← c.self.view_is) at c.in_default.ensures in
    rw (← c.self.view_is) (came x _ who (Fill c.args.page c.args.frame) c.args.blocks.now _ c.only_reply.result
    (answered x _ who (Fill c.args.page c.args.frame) c.args.blocks.now _ c.enter-came.result.reply c.only_reply.result.reply c.only_reply.result.puts
    c.only_reply.ensures.reply c.only_reply.ensures.puts
    (fill_applied x _ _ who c.args.page c.args.frame c.args.blocks.now c.enter-came.result.used c.enter-came.result.reply page_exists
    (fill_judged c.self.inside.plan c.self.inside.live.items c.self.inside.clocks.items c.self.inside.pages.items c.self.inside.frames.items c.self.inside.links.items c.self.invariant
    c.args.page c.args.frame c.index_mut-filled.result.now c.index_mut-lent.result.now page_exists frame_exists c.index_mut-filled.ensures.value c.index_mut-lent.ensures.value legal
    (seals_by (g.S.Sealer.key c.args.sealer.now)) c.args.blocks.now c.enter-came.result.used c.enter-came.result.reply (c.enter-came.ensures.judged c.self.inside.plan))
    (fill_made c.self.inside.plan c.self.inside.live.items c.self.inside.clocks.items c.self.inside.pages.items c.self.inside.frames.items c.self.inside.links.items c.self.invariant
    c.args.page c.args.frame c.index_mut-filled.result.now c.index_mut-lent.result.now page_exists frame_exists c.index_mut-filled.ensures.value c.index_mut-lent.ensures.value legal
    (seals_by (g.S.Sealer.key c.args.sealer.now)) c.args.blocks.now c.enter-came.result.used c.enter-came.result.reply (c.enter-came.ensures.judged c.self.inside.plan)
    c.enter-came.new.page c.enter-came.new.frame who (rw (← c.self.view_is) at actor) (c.enter-came.ensures.page c.self.inside.plan who) (c.enter-came.ensures.frame c.self.inside.plan who))))
    c.only_reply.ensures.blocks)
