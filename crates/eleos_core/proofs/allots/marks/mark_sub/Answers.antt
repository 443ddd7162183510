use Rattle.std.proofs.Common.{◌≡◌, ◌<◌, length, refl, ◌∙◌, arith}
use Rattle.std.proofs.lemmas.List.{length-set}
use Rattle.eleos_core.proofs.MarkedPages.{page_blank, page_kept, page_shared}
use Rattle.eleos_core.proofs.allots.marks.mark_sub.Goals as goal

pub returns-in-Blank-clause-part : goal.returns-in-Blank-clause-part
returns-in-Blank-clause-part c =
    let whole : length c.args.page.now.subs.items ≡ 4 = c.requires.page.whole in
    let inside : c.args.index < length c.args.page.now.subs.items = (let place : c.args.index < 4 = c.requires.index in omega arith) in
    page_blank c.args.page.now.subs.items c.args.index c.index.result.now c.marked.result inside c.index.ensures c.args.mark c.marked.ensures.part c.in-Blank.field-0 c.args.page.now.present c.clear_in.new.present c.in-Blank.is c.clear_in.ensures.cleared

pub returns-in-Blank-clause-keeps : goal.returns-in-Blank-clause-keeps
returns-in-Blank-clause-keeps c = λ wear frames holds.
    let whole : length c.args.page.now.subs.items ≡ 4 = holds.whole in
    let inside : c.args.index < length c.args.page.now.subs.items = (let place : c.args.index < 4 = c.requires.index in omega arith) in
    page_kept wear frames c.args.index c.args.page.now _ c.index.result.now c.marked.result inside c.index.ensures refl c.clear_in.ensures.cleared.frame c.clear_in.ensures.cleared.keeps c.marked.ensures.keeps holds

pub returns-in-Shared-clause-part : goal.returns-in-Shared-clause-part
returns-in-Shared-clause-part c =
    let whole : length c.args.page.now.subs.items ≡ 4 = c.requires.page.whole in
    let inside : c.args.index < length c.args.page.now.subs.items = (let place : c.args.index < 4 = c.requires.index in omega arith) in
    page_shared c.args.page.now.subs.items c.args.index c.index.result.now c.marked.result inside c.index.ensures c.args.mark c.marked.ensures.part c.args.page.now.present c.in-Shared.is

pub returns-in-Shared-clause-keeps : goal.returns-in-Shared-clause-keeps
returns-in-Shared-clause-keeps c = λ wear frames holds.
    let whole : length c.args.page.now.subs.items ≡ 4 = holds.whole in
    let inside : c.args.index < length c.args.page.now.subs.items = (let place : c.args.index < 4 = c.requires.index in omega arith) in
    page_kept wear frames c.args.index c.args.page.now _ c.index.result.now c.marked.result inside c.index.ensures refl refl (λ frames present. present) c.marked.ensures.keeps holds

pub returns-in-Blank-clause-whole : goal.returns-in-Blank-clause-whole
returns-in-Blank-clause-whole c = record {
  whole = length-set c.args.page.now.subs.items c.args.index c.marked.result ∙ c.requires.page.whole;
  frames = c.requires.page.frames;
  present = c.clear_in.ensures.cleared.keeps c.requires.page.frames c.requires.page.present;
}

pub returns-in-Shared-clause-whole : goal.returns-in-Shared-clause-whole
returns-in-Shared-clause-whole c = record {
  whole = length-set c.args.page.now.subs.items c.args.index c.marked.result ∙ c.requires.page.whole;
  frames = c.requires.page.frames;
  present = c.requires.page.present;
}
