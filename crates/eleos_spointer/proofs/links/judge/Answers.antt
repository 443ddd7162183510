use Rattle.std.proofs.Common.{Some, sym, ◌∙◌, ap, subst}
use Rattle.eleos_core.specs.Accesses.{link_stamp}
use Rattle.eleos_machine.specs.Machines.{plan_at}
use Rattle.eleos_machine.specs.Passes.{PassState}
use Rattle.eleos_machine.specs.Stamping.{HasStamped}
use Rattle.eleos_spointer.specs.Refused.{refusal_reply}
use Rattle.eleos_spointer.proofs.Judging.{may_stamp, page_held, refusal_is, refuses}
use Rattle.eleos_spointer.proofs.links.judge.Goals as goal

pub stamp-requires-clause-may : goal.stamp-requires-clause-may
stamp-requires-clause-may g c =
    may_stamp c.args.m.now c.args.pass.now c.args.at c.args.page c.requires.may c.in-Some.refused c.in-Some.ensures.plain
    (refusal_is c.args.m.now c.args.pass.now c.args.at c.args.page c.requires.may c.plan.result.now c.who.result c.in-Page.held (Some (refusal_reply c.in-Some.refused))
    (c.plan.ensures.plan ∙ sym (ap plan_at c.requires.may.own)) c.who.ensures c.in-Page.is c.in-Some.ensures.refusal)
    c.set.new.self (c.set.ensures ∙ (λ i. record c.args.pass.now { draft = link_stamp c.args.pass.now.hand.number c.args.at (c.refusal_reply.ensures.reply i) }))

pub give_page-requires-clause-has : goal.give_page-requires-clause-has
give_page-requires-clause-has g c =
    let refusal = refusal_is c.args.m.now c.args.pass.now c.args.at c.args.page c.requires.may c.plan.result.now c.who.result c.in-Page.held (Some (refusal_reply c.in-Some.refused))
    (c.plan.ensures.plan ∙ sym (ap plan_at c.requires.may.own)) c.who.ensures c.in-Page.is c.in-Some.ensures.refusal in
    let is = c.set.ensures ∙ (λ i. record c.args.pass.now { draft = link_stamp c.args.pass.now.hand.number c.args.at (c.refusal_reply.ensures.reply i) }) in
    page_held c.args.m.now c.args.pass.now c.args.at c.args.page c.requires.may c.in-Some.refused c.in-Some.ensures.plain refusal c.stamp.result c.stamp.new.pass
    (subst (λ (y : PassState). HasStamped y c.stamp.result c.stamp.new.pass) is c.stamp.ensures.stamped) c.stamp.ensures.lawful

pub returns : goal.returns
returns g c =
    let refusal = refusal_is c.args.m.now c.args.pass.now c.args.at c.args.page c.requires.may c.plan.result.now c.who.result c.in-Page.held (Some (refusal_reply c.in-Some.refused))
    (c.plan.ensures.plan ∙ sym (ap plan_at c.requires.may.own)) c.who.ensures c.in-Page.is c.in-Some.ensures.refusal in
    let is = c.set.ensures ∙ (λ i. record c.args.pass.now { draft = link_stamp c.args.pass.now.hand.number c.args.at (c.refusal_reply.ensures.reply i) }) in
    refuses c.args.m.now c.args.pass.now c.args.at c.args.page c.requires.may c.in-Some.refused c.in-Some.ensures.plain refusal c.stamp.result c.stamp.new.pass
    (subst (λ (y : PassState). HasStamped y c.stamp.result c.stamp.new.pass) is c.stamp.ensures.stamped) c.stamp.ensures.lawful c.give_page.new.pass c.give_page.ensures
