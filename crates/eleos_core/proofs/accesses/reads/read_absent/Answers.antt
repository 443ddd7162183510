use Rattle.std.proofs.Common.{◌≡◌, ◌<◌, ◌∙◌, [], length, ap, arith, refl, subst, sym}
use Rattle.eleos_base.specs.declared.memory.Reply.TheVariants.{Text}
use Rattle.eleos_core.specs.Accesses.{IsOpened, judged_sub}
use Rattle.eleos_core.specs.Cells.{part_with}
use Rattle.eleos_core.specs.Legal.{failed}
use Rattle.eleos_core.specs.Seals.{seals_by}
use Rattle.eleos_core.proofs.LentTexts.{sealed_if_spoiled}
use Rattle.eleos_core.proofs.Reading.{came-found, read_opened, read_spoiled, sealed-found}
use Rattle.eleos_core.proofs.accesses.reads.read_absent.Goals as goal

pub open_text-requires-clause-block : goal.open_text-requires-clause-block
open_text-requires-clause-block g c = λ sealed.
    let inside : c.spot_of-spot.result.index < length c.args.page.now.subs.items = (let whole = c.requires.page.whole in let in_page = c.spot_of-spot.ensures.in_page in omega arith) in
    c.requires.block (sealed-found c.args.plan.now c.args.at c.args.page.now c.spot_of-spot.result c.index.result.now c.spot_of-spot.ensures inside c.requires.absent c.index.ensures ∙ sealed)

pub returns-then-not-open_text-clause-reads : goal.returns-then-not-open_text-clause-reads
returns-then-not-open_text-clause-reads g c =
    let inside : c.spot_of-spot.result.index < length c.args.page.now.subs.items = (let whole = c.requires.page.whole in let in_page = c.spot_of-spot.ensures.in_page in omega arith) in
    let came = came-found c.args.plan.now c.args.at c.args.page.now c.spot_of-spot.result c.index.result.now c.spot_of-spot.ensures inside c.requires.absent c.index.ensures c.args.block.now in
    read_spoiled c.args.plan.now (seals_by (g.S.Sealer.key c.args.sealer.now)) c.args.who c.args.at (length c.args.buf.now) c.args.page.now c.spot_of-spot.result c.requires.accepted c.spot_of-spot.ensures inside
    _ c.index.result.now _ c.requires.absent c.index.ensures
    (subst (λ bs. judged_sub (seals_by (g.S.Sealer.key c.args.sealer.now)) c.spot_of-spot.result.place (part_with c.index.result.now []) bs ≡ failed c.spot_of-spot.result.place) (sym came) c.if-not-open_text.ensures) refl

pub returns-then-not-open_text-clause-spoiled : goal.returns-then-not-open_text-clause-spoiled
returns-then-not-open_text-clause-spoiled g c =
    let inside : c.spot_of-spot.result.index < length c.args.page.now.subs.items = (let whole = c.requires.page.whole in let in_page = c.spot_of-spot.ensures.in_page in omega arith) in
    sealed-found c.args.plan.now c.args.at c.args.page.now c.spot_of-spot.result c.index.result.now c.spot_of-spot.ensures inside c.requires.absent c.index.ensures
    ∙ sealed_if_spoiled (seals_by (g.S.Sealer.key c.args.sealer.now)) c.spot_of-spot.result.place c.index.result.now c.args.block.now c.if-not-open_text.ensures

pub returns-clause-reads : goal.returns-clause-reads
returns-clause-reads g c =
    let inside : c.spot_of-spot.result.index < length c.args.page.now.subs.items = (let whole = c.requires.page.whole in let in_page = c.spot_of-spot.ensures.in_page in omega arith) in
    let came = came-found c.args.plan.now c.args.at c.args.page.now c.spot_of-spot.result c.index.result.now c.spot_of-spot.ensures inside c.requires.absent c.index.ensures c.args.block.now in
    read_opened c.args.plan.now (seals_by (g.S.Sealer.key c.args.sealer.now)) c.args.who c.args.at (length c.args.buf.now) c.args.page.now c.spot_of-spot.result c.requires.accepted c.spot_of-spot.ensures inside
    _ c.index.result.now c.open_text.new.text _ c.requires.absent c.index.ensures
    (subst (λ bs. IsOpened (seals_by (g.S.Sealer.key c.args.sealer.now)) c.spot_of-spot.result.place (part_with c.index.result.now []) bs c.open_text.new.text) (sym came) c.if-not-open_text.ensures)
    (ap Text c.copy_from.ensures)
