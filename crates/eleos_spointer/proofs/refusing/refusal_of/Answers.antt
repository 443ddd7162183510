use Rattle.std.proofs.Common.{◌<◌, length, Some, sym, ◌∙◌, ap, arith}
use Rattle.eleos_core.proofs.Reading.{refusal-found}
use Rattle.eleos_spointer.proofs.Judging.{of_use}
use Rattle.eleos_spointer.proofs.refusing.refusal_of.Goals as goal

pub link_refused-requires : goal.link_refused-requires
link_refused-requires c = of_use c.args.who c.index.result.now.block c.in-Some.refused c.in-Some.ensures

pub returns-in-Some-clause-refusal : goal.returns-in-Some-clause-refusal
returns-in-Some-clause-refusal c =
    let inside : c.spot_of-spot.result.index < length c.args.page.now.subs.items = (let whole = c.requires.page.whole in let in_page = c.spot_of-spot.ensures.in_page in omega arith) in
    ap Some c.link_refused.ensures.reply ∙ (c.in-Some.ensures ∙ sym (refusal-found c.args.plan.now c.args.who c.args.at 1 c.args.page.now c.spot_of-spot.result c.index.result.now c.spot_of-spot.ensures inside c.index.ensures c.requires.range))

pub returns-in-None-clause-refusal : goal.returns-in-None-clause-refusal
returns-in-None-clause-refusal c =
    let inside : c.spot_of-spot.result.index < length c.args.page.now.subs.items = (let whole = c.requires.page.whole in let in_page = c.spot_of-spot.ensures.in_page in omega arith) in
    c.in-None.ensures ∙ sym (refusal-found c.args.plan.now c.args.who c.args.at 1 c.args.page.now c.spot_of-spot.result c.index.result.now c.spot_of-spot.ensures inside c.index.ensures c.requires.range)
