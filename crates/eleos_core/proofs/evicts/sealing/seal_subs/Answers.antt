use Rattle.std.proofs.Common.{◌∙◌, ap, arith}
use Rattle.eleos_core.specs.Evicts.{sealed_blocks, sealed_sub}
use Rattle.eleos_base.specs.Lists.{map_from}
use Rattle.eleos_core.specs.Seals.{seals_by}
use Rattle.eleos_core.proofs.Pieces.{all_parts, puts_next, slice_is_piece, subs_next}
use Rattle.eleos_core.proofs.PutSizes.{page_puts-sized}
use Rattle.eleos_core.proofs.evicts.sealing.seal_subs.Goals as goal

pub loop-i-preserved : goal.loop-i-preserved
loop-i-preserved g c = record {
  subs = subs_next (seals_by (g.S.Sealer.key c.args.sealer.now)) c.args.bytes.now c.args.subs.now c.args.first c.loop-i.i _ c.seal_sub.new.sub c.loop-i.next.items c.push.new.self.items
      c.loop-i-test.true (slice_is_piece c.loop-i.i c.args.bytes.now) c.in_ok-put.ensures.part c.in_ok-push.ensures.items c.loop-i.invariant.subs;
  puts = puts_next (seals_by (g.S.Sealer.key c.args.sealer.now)) c.args.bytes.now c.args.subs.now c.args.first c.loop-i.i _ c.in_ok-put.put c.loop-i.puts.items c.add_put.new.puts.items
      c.loop-i-test.true (slice_is_piece c.loop-i.i c.args.bytes.now) c.in_ok-put.ensures.put c.in_ok-add_put.ensures c.loop-i.invariant.puts;
}

pub returns-clause-subs : goal.returns-clause-subs
returns-clause-subs g c = c.loop-i.invariant.subs
    ∙ ap (map_from (sealed_sub (seals_by (g.S.Sealer.key c.args.sealer.now))) c.args.first) (all_parts (seals_by (g.S.Sealer.key c.args.sealer.now)) c.args.bytes.now c.args.subs.now c.loop-i.i c.loop-i-test.false)

pub returns-clause-puts : goal.returns-clause-puts
returns-clause-puts g c = c.loop-i.invariant.puts
    ∙ ap (sealed_blocks (seals_by (g.S.Sealer.key c.args.sealer.now)) c.args.first) (all_parts (seals_by (g.S.Sealer.key c.args.sealer.now)) c.args.bytes.now c.args.subs.now c.loop-i.i c.loop-i-test.false)

pub returns-clause-blocks : goal.returns-clause-blocks
returns-clause-blocks g c = page_puts-sized (g.S.Sealer.key c.args.sealer.now) c.args.first c.args.bytes.now c.args.subs.now c.loop-i.puts.items
    (let whole = c.requires.whole in let size = c.requires.bytes in omega arith) (returns-clause-puts g c)
