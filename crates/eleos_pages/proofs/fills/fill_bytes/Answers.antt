use Rattle.std.proofs.Common.{◌≡◌, ◌≤◌, ◌+◌, ◌∙◌, length, None, get_or, arith}
use Rattle.eleos_core.specs.Cells.{sub_parts}
use Rattle.eleos_core.specs.Seals.{seals_by}
use Rattle.eleos_core.proofs.Filling.{length_slice}
use Rattle.eleos_core.proofs.FilledSoFar.{filled_all, filled_none}
use Rattle.eleos_core.proofs.Pieces.{blank, length-sub_parts}
use Rattle.eleos_pages.proofs.CameSoFar.{count_for, count_most}
use Rattle.eleos_pages.proofs.CrossedMore.{crosses-nothing}
use Rattle.eleos_pages.proofs.FillSteps.{come_by, crossed_by, crossed_last, fill_by, fill_spoiled}
use Rattle.eleos_pages.proofs.fills.fill_bytes.Goals as goal

pub loop-i-init : goal.loop-i-init
loop-i-init g c = record {
  few = omega arith;
  come = c.requires.ready;
  so_far = filled_none (seals_by (g.S.Sealer.key c.args.sealer.now)) c.args.page (sub_parts c.args.subs.now None) c.args.bytes.now c.requires.zero c.requires.room;
  crossed = crosses-nothing g.P.HostPort g.P.HostStore c.args.tap.now;
}

pub loop-i-preserved : goal.loop-i-preserved
loop-i-preserved g c =
    let x = seals_by (g.S.Sealer.key c.args.sealer.now) in
    let u = get_or c.args.subs.now c.loop-i.i blank in
    let was = c.loop-i.invariant in
    let step = c.if-not-open_sub.ensures in
    let m = c.block_count-blocks.result in
    let same : m ≡ count_for u = c.block_count-blocks.ensures in
    let few : c.loop-i.blocks + m ≤ c.loop-i.i + 1 = (let most = count_most u in let so = was.few in omega arith) in
    record {
      few = few;
      come = come_by x c.args.page c.args.subs.now c.requires.whole c.loop-i.i (omega arith) c.loop-i.tap c.open_sub.new.tap c.loop-i.blocks was.come was.few m same step.tap;
      so_far = fill_by x c.args.page c.args.subs.now c.requires.whole c.loop-i.i (omega arith) c.loop-i.tap c.open_sub.new.tap c.loop-i.blocks was.come was.few
          c.loop-i.bytes was.so_far step.block m same c.open_sub.new.text step.tap step.opens
          (c.open_sub.auto.text ∙ length_slice c.loop-i.i c.loop-i.bytes (omega arith) was.so_far.whole);
      crossed = crossed_by x c.args.page c.args.subs.now c.requires.whole c.loop-i.i (omega arith) c.loop-i.tap c.open_sub.new.tap c.loop-i.blocks was.come was.few
          c.loop-i.bytes was.so_far step.block g.P.HostPort g.P.HostStore c.args.tap.now was.crossed step.crossed m same step.tap;
    }

pub returns-then-not-open_sub-clause-spoiled : goal.returns-then-not-open_sub-clause-spoiled
returns-then-not-open_sub-clause-spoiled g c =
    let was = c.loop-i.invariant in
    let step = c.if-not-open_sub.ensures in
    fill_spoiled (seals_by (g.S.Sealer.key c.args.sealer.now)) c.args.page c.args.subs.now c.requires.whole c.loop-i.i (omega arith) c.loop-i.tap c.open_sub.new.tap c.loop-i.blocks was.come was.few
    c.loop-i.bytes was.so_far step.block step.tap step.opens

pub returns-then-not-open_sub-clause-crossed : goal.returns-then-not-open_sub-clause-crossed
returns-then-not-open_sub-clause-crossed g c =
    let was = c.loop-i.invariant in
    let step = c.if-not-open_sub.ensures in
    crossed_last (seals_by (g.S.Sealer.key c.args.sealer.now)) c.args.page c.args.subs.now c.requires.whole c.loop-i.i (omega arith) c.loop-i.tap c.open_sub.new.tap c.loop-i.blocks was.come was.few
    c.loop-i.bytes was.so_far step.block g.P.HostPort g.P.HostStore c.args.tap.now was.crossed step.crossed step.tap step.opens

pub returns-clause-filled : goal.returns-clause-filled
returns-clause-filled g c = λ k.
    let whole : length (sub_parts c.args.subs.now None) ≡ 4 = length-sub_parts c.args.subs.now None ∙ c.requires.whole in
    filled_all (seals_by (g.S.Sealer.key c.args.sealer.now)) c.args.page (sub_parts c.args.subs.now None) k c.loop-i.i _ c.loop-i.bytes whole (omega arith) c.loop-i.invariant.so_far
