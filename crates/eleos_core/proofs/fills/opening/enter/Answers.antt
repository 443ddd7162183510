use Rattle.std.proofs.Common.{◌≡◌, ◌∙◌, List, ℕ, length, take, sym, subst, ap, arith}
use Rattle.std.proofs.lemmas.List.{take_all, take_at, with_items_is}
use Rattle.std.specs.Vec.{with_items}
use Rattle.eleos_base.specs.Plain.{zeros}
use Rattle.eleos_core.specs.Cells.{frame_of_page, sub_parts}
use Rattle.eleos_core.specs.Fills.{AreOpened, absent_page, fill_stamp}
use Rattle.eleos_core.specs.Parts.{page_part, part_after, the_page}
use Rattle.eleos_core.specs.Seals.{seals_by}
use Rattle.eleos_base.specs.declared.memory.Reply.TheVariants.{Done, Tampered}
use Rattle.eleos_core.proofs.Filling.{length-zeros, page_filled, page_spoiled}
use Rattle.eleos_core.proofs.fills.opening.enter.Goals as goal

pub open_subs-requires-clause-room : goal.open_subs-requires-clause-room
open_subs-requires-clause-room g c = ap length (c.deref_mut.ensures.value ∙ c.lend-bytes.ensures.bytes) ∙ length-zeros 4096

pub returns-in-None-clause-page : goal.returns-in-None-clause-page
returns-in-None-clause-page g c = λ k who.
    let x = seals_by (g.S.Sealer.key c.args.sealer.now) in
    let len : length c.open_subs.new.bytes ≡ 4096 = c.open_subs.auto.bytes ∙ (ap length (c.deref_mut.ensures.value ∙ c.lend-bytes.ensures.bytes) ∙ length-zeros 4096) in
    let own : length c.lend-bytes.result.items ≡ 4096 = ap length c.lend-bytes.ensures.bytes ∙ length-zeros 4096 in
    let items : (with_items c.lend-bytes.result c.open_subs.new.bytes).items ≡ c.open_subs.new.bytes = with_items_is c.lend-bytes.result c.open_subs.new.bytes (len ∙ (sym own ∙ sym c.lend-bytes.result.ok.0)) in
    let opened : AreOpened x c.args.page_number (absent_page c.args.page.now.subs.items) c.args.blocks.now c.open_subs.new.bytes =
    subst (λ us. AreOpened x c.args.page_number (absent_page us) c.args.blocks.now c.open_subs.new.bytes) c.deref.ensures.value c.in-None.ensures.opened in
    page_filled k x who c.args.page_number c.args.frame_number (take (length c.args.blocks.now) c.args.blocks.now) c.args.page.now.subs.items (with_items c.lend-bytes.result c.open_subs.new.bytes) c.requires.whole
    (subst (λ (cs : List (List ℕ)). AreOpened x c.args.page_number (absent_page c.args.page.now.subs.items) cs (with_items c.lend-bytes.result c.open_subs.new.bytes).items) (sym (take_all (length c.args.blocks.now) c.args.blocks.now (omega arith)))
    (subst (AreOpened x c.args.page_number (absent_page c.args.page.now.subs.items) c.args.blocks.now) (sym items) opened))
    ∙ ap (λ o. part_after k x (fill_stamp who c.args.page_number c.args.frame_number (take (length c.args.blocks.now) c.args.blocks.now) Done) (the_page c.args.page_number)
    (page_part (frame_of_page o) (sub_parts c.args.page.now.subs.items o))) (sym c.requires.absent)

pub returns-in-None-clause-present : goal.returns-in-None-clause-present
returns-in-None-clause-present g c =
    let len : length c.open_subs.new.bytes ≡ 4096 = c.open_subs.auto.bytes ∙ (ap length (c.deref_mut.ensures.value ∙ c.lend-bytes.ensures.bytes) ∙ length-zeros 4096) in
    let own : length c.lend-bytes.result.items ≡ 4096 = ap length c.lend-bytes.ensures.bytes ∙ length-zeros 4096 in
    (omega arith, ap length (with_items_is c.lend-bytes.result c.open_subs.new.bytes (len ∙ (sym own ∙ sym c.lend-bytes.result.ok.0))) ∙ len)

pub returns-in-Some-clause-page : goal.returns-in-Some-clause-page
returns-in-Some-clause-page g c = λ k who.
    let x = seals_by (g.S.Sealer.key c.args.sealer.now) in
    subst (λ o. page_part (frame_of_page o) (sub_parts c.args.page.now.subs.items o)
    ≡ part_after k x (fill_stamp who c.args.page_number c.args.frame_number (take c.in-Some.spoiled.used c.args.blocks.now) (Tampered c.in-Some.spoiled.place)) (the_page c.args.page_number)
    (page_part (frame_of_page o) (sub_parts c.args.page.now.subs.items o))) (sym c.requires.absent)
    (page_spoiled k x who c.args.page_number c.args.frame_number (take c.in-Some.spoiled.used c.args.blocks.now) c.args.page.now.subs.items c.in-Some.spoiled.place)

pub returns-in-Some-clause-used : goal.returns-in-Some-clause-used
returns-in-Some-clause-used g c =
    let len : length c.open_subs.new.bytes ≡ 4096 = c.open_subs.auto.bytes ∙ (ap length (c.deref_mut.ensures.value ∙ c.lend-bytes.ensures.bytes) ∙ length-zeros 4096) in
    let own : length c.lend-bytes.result.items ≡ 4096 = ap length c.lend-bytes.ensures.bytes ∙ length-zeros 4096 in
    let items : (with_items c.lend-bytes.result c.open_subs.new.bytes).items ≡ c.open_subs.new.bytes = with_items_is c.lend-bytes.result c.open_subs.new.bytes (len ∙ (sym own ∙ sym c.lend-bytes.result.ok.0)) in
    let cleared : c.clear.new.bytes ≡ zeros 4096 = c.clear.ensures ∙ ap zeros (ap length (c.deref_mut-in-Some.ensures.value ∙ items) ∙ len) in
    take_at c.clear.new.bytes _ c.lend-bytes.result.len (ap length cleared ∙ (length-zeros 4096 ∙ (sym own ∙ sym c.lend-bytes.result.ok.0))) ∙ cleared
