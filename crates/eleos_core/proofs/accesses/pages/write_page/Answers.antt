use Rattle.std.proofs.Common.{◌≡◌, ◌∷◌, [], map, Err, None, ◌<◌, true, length, is_some, refl, ap, sym, ◌∙◌, arith}
use Rattle.eleos_core.specs.Accesses.{sub_for}
use Rattle.eleos_core.specs.Applying.{put_of}
use Rattle.eleos_core.specs.Cells.{part_of_page}
use Rattle.eleos_base.specs.Answers.{write_reply}
use Rattle.eleos_core.specs.Seals.{Seals, seals_by}
use Rattle.eleos_core.specs.Texts.{came_for}
use Rattle.eleos_core.proofs.Machines.{none_of}
use Rattle.eleos_core.proofs.PageAccesses.{writes-worn}
use Rattle.eleos_core.proofs.PutSizes.{one_put-sized}
use Rattle.eleos_core.proofs.Reading.{block-whole, blocks-came}
use Rattle.eleos_core.proofs.Refills.{refill_is}
use Rattle.eleos_core.proofs.Writing.{blocks-framed, blocks-unworn, worn-found, writes_page}
use Rattle.eleos_core.proofs.accesses.pages.write_page.Goals as goal

pub returns-then-is_some-clause-writes : goal.returns-then-is_some-clause-writes
returns-then-is_some-clause-writes g c =
    let x : Seals = seals_by (g.S.Sealer.key c.args.sealer.now) in
    let here : is_some c.args.page.now.present ≡ true = (cc) in
    writes_page c.args.plan.now x c.args.who c.args.at c.args.bytes.now c.args.blocks.now _ (part_of_page c.args.page.now) _ _ c.only_reply.result.reply _ c.only_reply.result.puts
    (blocks-framed c.args.plan.now c.args.at c.args.page.now c.args.blocks.now here c.requires.blocks)
    (c.only_reply.ensures.reply ∙ c.reply_of_write.ensures) (ap (map put_of) c.only_reply.ensures.puts)
    (c.write_present-answer.ensures.writes x) (c.write_present-answer.ensures.sealed x)

pub returns-then-is_worn-clause-writes : goal.returns-then-is_worn-clause-writes
returns-then-is_worn-clause-writes g c =
    let x : Seals = seals_by (g.S.Sealer.key c.args.sealer.now) in
    let inside : c.spot_of-spot.result.index < length c.args.page.now.subs.items = (let whole = c.requires.page.whole in let in_page = c.spot_of-spot.ensures.in_page in omega arith) in
    writes-worn c.args.plan.now x c.args.who c.args.at c.args.bytes.now c.args.blocks.now c.args.page.now c.spot_of-spot.result c.requires.accepted c.spot_of-spot.ensures inside
    c.index.result.now c.only_reply-then-is_worn.result.reply c.only_reply-then-is_worn.result.puts _ c.index.ensures (sym c.if-is_worn.ensures) c.requires.blocks c.only_reply-then-is_worn.ensures.reply c.only_reply-then-is_worn.ensures.puts refl

pub write_absent-requires-clause-absent : goal.write_absent-requires-clause-absent
write_absent-requires-clause-absent g c = none_of c.args.page.now.present (cc)

pub write_absent-requires-clause-fresh : goal.write_absent-requires-clause-fresh
write_absent-requires-clause-fresh g c =
    let inside : c.spot_of-spot.result.index < length c.args.page.now.subs.items = (let whole = c.requires.page.whole in let in_page = c.spot_of-spot.ensures.in_page in omega arith) in
    worn-found c.args.plan.now c.args.at c.args.page.now c.spot_of-spot.result c.index.result.now c.spot_of-spot.ensures inside c.index.ensures ∙ sym c.if-is_worn.ensures

pub write_absent-requires-clause-block : goal.write_absent-requires-clause-block
write_absent-requires-clause-block g c = λ sealed.
    let inside : c.spot_of-spot.result.index < length c.args.page.now.subs.items = (let whole = c.requires.page.whole in let in_page = c.spot_of-spot.ensures.in_page in omega arith) in
    let fresh = worn-found c.args.plan.now c.args.at c.args.page.now c.spot_of-spot.result c.index.result.now c.spot_of-spot.ensures inside c.index.ensures ∙ sym c.if-is_worn.ensures in
    let none : c.args.page.now.present ≡ None = none_of c.args.page.now.present (cc) in
    let are = blocks-unworn c.args.plan.now c.args.at (part_of_page c.args.page.now) c.args.blocks.now fresh c.requires.blocks in
    ap length c.block_in-block.ensures ∙ block-whole c.args.plan.now c.args.at c.args.page.now c.args.blocks.now are none sealed

pub returns-in-Ok-clause-writes : goal.returns-in-Ok-clause-writes
returns-in-Ok-clause-writes g c =
    let inside : c.spot_of-spot.result.index < length c.args.page.now.subs.items = (let whole = c.requires.page.whole in let in_page = c.spot_of-spot.ensures.in_page in omega arith) in
    let fresh = worn-found c.args.plan.now c.args.at c.args.page.now c.spot_of-spot.result c.index.result.now c.spot_of-spot.ensures inside c.index.ensures ∙ sym c.if-is_worn.ensures in
    let none : c.args.page.now.present ≡ None = none_of c.args.page.now.present (cc) in
    let are = blocks-unworn c.args.plan.now c.args.at (part_of_page c.args.page.now) c.args.blocks.now fresh c.requires.blocks in
    let came = blocks-came c.args.plan.now c.args.at c.args.page.now c.args.blocks.now are none ∙ ap (came_for (sub_for c.args.plan.now c.args.at (part_of_page c.args.page.now))) (sym c.block_in-block.ensures) in
    let long : length c.write_absent.new.text ≡ length c.in_ok-text.text.items = c.write_absent.auto.text ∙ ap length c.deref_mut.ensures.value in
    let kept = refill_is c.in_ok-text.text c.write_absent.new.text c.write_absent.new.text refl long in
    writes_page c.args.plan.now (seals_by (g.S.Sealer.key c.args.sealer.now)) c.args.who c.args.at c.args.bytes.now c.args.blocks.now _ (part_of_page c.args.page.now) (part_of_page c.write_absent.new.page) _ _ _ c.one_put.result
    came refl (c.one_put.ensures ∙ (λ i. (c.spot_of-spot.ensures.place i, kept i) ∷ []))
    (rw c.in-Ok.is at c.write_absent.ensures.writes) (rw c.in-Ok.is at c.write_absent.ensures.sealed)

pub returns-in-Ok-clause-blocks : goal.returns-in-Ok-clause-blocks
returns-in-Ok-clause-blocks g c =
    let sized = c.in_ok-text.ensures.len in
    let whole = c.in_ok-text.text.ok.0 in
    let long : length c.write_absent.new.text ≡ length c.in_ok-text.text.items = c.write_absent.auto.text ∙ ap length c.deref_mut.ensures.value in
    let kept = refill_is c.in_ok-text.text c.write_absent.new.text c.write_absent.new.text refl long in
    let size : length c.in_ok-text.text.items ≡ 1024 = omega arith in
    one_put-sized _ _ c.one_put.result c.one_put.ensures (ap length kept ∙ (long ∙ size))

pub returns-in-Err-clause-writes : goal.returns-in-Err-clause-writes
returns-in-Err-clause-writes g c =
    let inside : c.spot_of-spot.result.index < length c.args.page.now.subs.items = (let whole = c.requires.page.whole in let in_page = c.spot_of-spot.ensures.in_page in omega arith) in
    let fresh = worn-found c.args.plan.now c.args.at c.args.page.now c.spot_of-spot.result c.index.result.now c.spot_of-spot.ensures inside c.index.ensures ∙ sym c.if-is_worn.ensures in
    let none : c.args.page.now.present ≡ None = none_of c.args.page.now.present (cc) in
    let are = blocks-unworn c.args.plan.now c.args.at (part_of_page c.args.page.now) c.args.blocks.now fresh c.requires.blocks in
    let came = blocks-came c.args.plan.now c.args.at c.args.page.now c.args.blocks.now are none ∙ ap (came_for (sub_for c.args.plan.now c.args.at (part_of_page c.args.page.now))) (sym c.block_in-block.ensures) in
    writes_page c.args.plan.now (seals_by (g.S.Sealer.key c.args.sealer.now)) c.args.who c.args.at c.args.bytes.now c.args.blocks.now _ (part_of_page c.args.page.now) (part_of_page c.write_absent.new.page) (write_reply (Err c.in-Err.refused))
    c.only_reply-in-Err.result.reply _ c.only_reply-in-Err.result.puts
    came (c.only_reply-in-Err.ensures.reply ∙ c.refusal_reply.ensures) (ap (map put_of) c.only_reply-in-Err.ensures.puts)
    (rw c.in-Err.is at c.write_absent.ensures.writes) (rw c.in-Err.is at c.write_absent.ensures.sealed)
