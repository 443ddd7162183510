use Rattle.std.proofs.Common.{◌≡◌, [], ◌≤◌, ◌+◌, ◌-◌, ◌*◌, ◌∙◌, length, take, drop, get_or, refl, sym, ap, arith}
use Rattle.std.proofs.lemmas.List.{get_or-set_other, length-set}
use Rattle.eleos_core.specs.Cells.{part_with}
use Rattle.eleos_core.specs.Evicts.{sealed_blocks, sealed_sub}
use Rattle.eleos_base.specs.Lists.{map_from}
use Rattle.eleos_core.specs.Seals.{seals_by}
use Rattle.eleos_core.proofs.Filling.{length-written, length_slice, piece_above}
use Rattle.eleos_core.proofs.Pieces.{all_parts, blank, slice_is_piece}
use Rattle.eleos_pages.proofs.CrossedMore.{crosses-same}
use Rattle.eleos_pages.proofs.EvictSteps.{bare_all, evict_next, gone_next, sent_few, sent_next}
use Rattle.eleos_pages.proofs.evicts.evict_bytes.Goals as goal

pub loop-i-preserved : goal.loop-i-preserved
loop-i-preserved g c =
    let x = seals_by (g.S.Sealer.key c.args.sealer.now) in
    let was = c.loop-i.invariant in
    let i = c.loop-i.i in
    let whole : length c.loop-i.bytes ≡ 4096 = was.size ∙ c.requires.bytes in
    let fits : length c.evict_sub-gone.new.text ≡ 1024 = c.evict_sub-gone.auto.text ∙ length_slice i c.loop-i.bytes (omega arith) whole in
    let u = get_or c.loop-i.subs i blank in
    let value : u ≡ get_or c.args.subs.now i blank = was.subs i (omega arith) in
    let text_is = slice_is_piece i c.loop-i.bytes ∙ was.pieces i (omega arith) (omega arith) in
    record {
      count = length-set c.loop-i.subs i c.evict_sub-gone.new.sub ∙ was.count;
      size = length-written i c.loop-i.bytes c.evict_sub-gone.new.text (omega arith) whole fits ∙ sym c.requires.bytes;
      sealed = evict_next x c.args.first c.args.subs.now c.args.bytes.now i (omega arith) u _ value text_is c.loop-i.subs c.evict_sub-gone.new.sub was.count c.evict_sub-gone.ensures.part was.sealed;
      subs = λ j le. get_or-set_other c.loop-i.subs i j c.evict_sub-gone.new.sub blank (λ is. omega arith) ∙ was.subs j (omega arith);
      pieces = λ j le most. piece_above i c.loop-i.bytes c.evict_sub-gone.new.text (omega arith) whole fits j (omega arith) ∙ was.pieces j (omega arith) most;
      crossed = gone_next x c.args.first c.args.subs.now c.args.bytes.now i (omega arith) u _ value text_is g.P.HostPort g.P.HostStore c.args.tap.now c.loop-i.tap c.evict_sub-gone.new.tap was.crossed c.evict_sub-gone.ensures.crossed;
      sent = sent_next x c.args.first c.args.subs.now c.args.bytes.now i (omega arith) u _ value text_is c.loop-i.gone c.evict_sub-gone.result was.sent c.evict_sub-gone.ensures.count;
      few = (let so = was.few in let one : c.evict_sub-gone.result ≤ 1 = sent_few x (c.args.first + i) c.evict_sub-gone.result (part_with u (take (i * 1024 + 1024 - i * 1024) (drop (i * 1024) c.loop-i.bytes))) c.evict_sub-gone.ensures.count in omega arith);
      passed = c.evict_sub-gone.ensures.passed;
    }

pub returns-clause-subs : goal.returns-clause-subs
returns-clause-subs g c = bare_all c.loop-i.i c.loop-i.subs (let same = c.loop-i.invariant.count in omega arith) ∙ (c.loop-i.invariant.sealed
    ∙ ap (map_from (sealed_sub (seals_by (g.S.Sealer.key c.args.sealer.now))) c.args.first) (all_parts (seals_by (g.S.Sealer.key c.args.sealer.now)) c.args.bytes.now c.args.subs.now c.loop-i.i (let same = c.loop-i.invariant.count in omega arith)))

pub returns-clause-crossed : goal.returns-clause-crossed
returns-clause-crossed g c = crosses-same g.P.HostPort g.P.HostStore c.args.tap.now c.loop-i.tap [] [] _ _ refl
    (ap (sealed_blocks (seals_by (g.S.Sealer.key c.args.sealer.now)) c.args.first) (all_parts (seals_by (g.S.Sealer.key c.args.sealer.now)) c.args.bytes.now c.args.subs.now c.loop-i.i (let same = c.loop-i.invariant.count in omega arith)))
    c.loop-i.invariant.crossed

pub returns-clause-count : goal.returns-clause-count
returns-clause-count g c = c.loop-i.invariant.sent
    ∙ ap (λ vs. length (sealed_blocks (seals_by (g.S.Sealer.key c.args.sealer.now)) c.args.first vs)) (all_parts (seals_by (g.S.Sealer.key c.args.sealer.now)) c.args.bytes.now c.args.subs.now c.loop-i.i (let same = c.loop-i.invariant.count in omega arith))
