use Rattle.std.proofs.Common.{◌≡◌, ◌∷◌, ◌<◌, ◌∙◌, [], length, arith, refl, ap, subst, sym}
use Rattle.eleos_base.specs.Places.{all_frames}
use Rattle.eleos_core.specs.Accesses.{IsResealed, judged_sub}
use Rattle.eleos_core.specs.Cells.{part_with}
use Rattle.eleos_core.specs.Legal.{failed}
use Rattle.eleos_core.specs.Seals.{seals_by}
use Rattle.eleos_core.proofs.LentTexts.{sealed_if_spoiled}
use Rattle.eleos_core.proofs.Reading.{came-found, sealed-found}
use Rattle.eleos_core.proofs.PageAccesses.{IsPage-sealed}
use Rattle.eleos_core.proofs.Writing.{worn-found, write_sealed, write_spoiled}
use Rattle.eleos_core.proofs.accesses.writes.write_absent.Goals as goal

pub reseal_text-requires-clause-block : goal.reseal_text-requires-clause-block
reseal_text-requires-clause-block g c = λ sealed.
    let inside : c.spot_of-spot.result.index < length c.args.page.now.subs.items = (let whole = c.requires.page.whole in let in_page = c.spot_of-spot.ensures.in_page in omega arith) in
    c.requires.block (sealed-found c.args.plan.now c.args.at c.args.page.now c.spot_of-spot.result c.index.result.now c.spot_of-spot.ensures inside c.requires.absent c.index.ensures ∙ sealed)

pub returns-then-not-reseal_text-clause-writes : goal.returns-then-not-reseal_text-clause-writes
returns-then-not-reseal_text-clause-writes g c =
    let x = seals_by (g.S.Sealer.key c.args.sealer.now) in
    let inside : c.spot_of-spot.result.index < length c.args.page.now.subs.items = (let whole = c.requires.page.whole in let in_page = c.spot_of-spot.ensures.in_page in omega arith) in
    let came = came-found c.args.plan.now c.args.at c.args.page.now c.spot_of-spot.result c.index.result.now c.spot_of-spot.ensures inside c.requires.absent c.index.ensures c.args.block.now in
    (write_spoiled c.args.plan.now x c.args.who c.args.at c.args.bytes.now c.args.page.now c.spot_of-spot.result c.requires.accepted c.spot_of-spot.ensures inside
    _ c.index.result.now c.index.ensures c.requires.fresh c.requires.absent
    (subst (λ bs. judged_sub x c.spot_of-spot.result.place (part_with c.index.result.now []) bs ≡ failed c.spot_of-spot.result.place) (sym came) c.if-not-reseal_text.ensures.reseals)).on

pub returns-then-not-reseal_text-clause-sealed : goal.returns-then-not-reseal_text-clause-sealed
returns-then-not-reseal_text-clause-sealed g c =
    let x = seals_by (g.S.Sealer.key c.args.sealer.now) in
    let inside : c.spot_of-spot.result.index < length c.args.page.now.subs.items = (let whole = c.requires.page.whole in let in_page = c.spot_of-spot.ensures.in_page in omega arith) in
    let came = came-found c.args.plan.now c.args.at c.args.page.now c.spot_of-spot.result c.index.result.now c.spot_of-spot.ensures inside c.requires.absent c.index.ensures c.args.block.now in
    (write_spoiled c.args.plan.now x c.args.who c.args.at c.args.bytes.now c.args.page.now c.spot_of-spot.result c.requires.accepted c.spot_of-spot.ensures inside
    _ c.index.result.now c.index.ensures c.requires.fresh c.requires.absent
    (subst (λ bs. judged_sub x c.spot_of-spot.result.place (part_with c.index.result.now []) bs ≡ failed c.spot_of-spot.result.place) (sym came) c.if-not-reseal_text.ensures.reseals)).puts_are

pub returns-then-not-reseal_text-clause-spoiled : goal.returns-then-not-reseal_text-clause-spoiled
returns-then-not-reseal_text-clause-spoiled g c =
    let inside : c.spot_of-spot.result.index < length c.args.page.now.subs.items = (let whole = c.requires.page.whole in let in_page = c.spot_of-spot.ensures.in_page in omega arith) in
    sealed-found c.args.plan.now c.args.at c.args.page.now c.spot_of-spot.result c.index.result.now c.spot_of-spot.ensures inside c.requires.absent c.index.ensures
    ∙ sealed_if_spoiled (seals_by (g.S.Sealer.key c.args.sealer.now)) c.spot_of-spot.result.place c.index.result.now c.args.block.now c.if-not-reseal_text.ensures.reseals

pub returns-clause-writes : goal.returns-clause-writes
returns-clause-writes g c =
    let x = seals_by (g.S.Sealer.key c.args.sealer.now) in
    let spot = c.spot_of-spot.result in
    let inside : c.spot_of-spot.result.index < length c.args.page.now.subs.items = (let whole = c.requires.page.whole in let in_page = c.spot_of-spot.ensures.in_page in omega arith) in
    let came = came-found c.args.plan.now c.args.at c.args.page.now c.spot_of-spot.result c.index.result.now c.spot_of-spot.ensures inside c.requires.absent c.index.ensures c.args.block.now in
    (write_sealed c.args.plan.now x c.args.who c.args.at c.args.bytes.now c.args.page.now spot c.requires.accepted c.spot_of-spot.ensures inside
    _ c.index.result.now c.reseal_text.new.sub _ _ c.index.ensures c.requires.fresh c.requires.absent
    (subst (λ bs. IsResealed x spot.place spot.from c.args.bytes.now bs (part_with c.index.result.now []) c.reseal_text.new.text (part_with c.reseal_text.new.sub [])) (sym came) c.if-not-reseal_text.ensures.reseals) refl).on

pub returns-clause-sealed : goal.returns-clause-sealed
returns-clause-sealed g c =
    let x = seals_by (g.S.Sealer.key c.args.sealer.now) in
    let spot = c.spot_of-spot.result in
    let inside : c.spot_of-spot.result.index < length c.args.page.now.subs.items = (let whole = c.requires.page.whole in let in_page = c.spot_of-spot.ensures.in_page in omega arith) in
    let came = came-found c.args.plan.now c.args.at c.args.page.now c.spot_of-spot.result c.index.result.now c.spot_of-spot.ensures inside c.requires.absent c.index.ensures c.args.block.now in
    (write_sealed c.args.plan.now x c.args.who c.args.at c.args.bytes.now c.args.page.now spot c.requires.accepted c.spot_of-spot.ensures inside
    _ c.index.result.now c.reseal_text.new.sub _ _ c.index.ensures c.requires.fresh c.requires.absent
    (subst (λ bs. IsResealed x spot.place spot.from c.args.bytes.now bs (part_with c.index.result.now []) c.reseal_text.new.text (part_with c.reseal_text.new.sub [])) (sym came) c.if-not-reseal_text.ensures.reseals) refl).puts_are
    ∙ ap (λ s. (s, c.reseal_text.new.text) ∷ []) c.spot_of-spot.ensures.place

pub returns-clause-page : goal.returns-clause-page
returns-clause-page g c =
    let inside : c.spot_of-spot.result.index < length c.args.page.now.subs.items = (let whole = c.requires.page.whole in let in_page = c.spot_of-spot.ensures.in_page in omega arith) in
    IsPage-sealed (seals_by (g.S.Sealer.key c.args.sealer.now)) c.args.plan.now.wear (all_frames c.args.plan.now) c.spot_of-spot.result.place c.args.page.now _ c.spot_of-spot.result.index c.index.result.now c.reseal_text.new.sub _
    c.requires.page c.index.ensures inside (sym (worn-found c.args.plan.now c.args.at c.args.page.now c.spot_of-spot.result c.index.result.now c.spot_of-spot.ensures inside c.index.ensures) ∙ c.requires.fresh)
    c.if-not-reseal_text.ensures.reseals.part_is refl refl
