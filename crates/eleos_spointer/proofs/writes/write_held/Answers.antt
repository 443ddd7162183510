use Rattle.std.proofs.Common.{◌≡◌, ℕ, [], refl, sym, ◌∙◌, ap, subst, length}
use Rattle.eleos_base.specs.declared.memory.Op.TheVariants.{Write}
use Rattle.eleos_base.specs.declared.plan.Plan.{Plan}
use Rattle.eleos_base.specs.Answers.{write_reply}
use Rattle.eleos_base.specs.Places.{all_frames}
use Rattle.eleos_core.specs.Accesses.{page_at, write_stamp}
use Rattle.eleos_core.specs.Cells.{IsPresent, part_of_page}
use Rattle.eleos_core.specs.Parts.{part_after, the_page}
use Rattle.eleos_machine.specs.Machines.{Site}
use Rattle.eleos_machine.specs.Passes.{PassState, plan_of, seals_of}
use Rattle.eleos_pages.specs.Held.{access_stamp}
use Rattle.eleos_pages.proofs.OnPages.{may_write, page_fits}
use Rattle.eleos_spointer.proofs.Accessing.{entered_as, held_present, part_made}
use Rattle.eleos_spointer.proofs.writes.write_held.Goals as goal

pub write_present-answer-requires-clause-page : goal.write_present-answer-requires-clause-page
write_present-answer-requires-clause-page g c =
    page_fits c.args.m.now c.args.pass.now c.args.at (length c.args.bytes.now) c.args.cell c.args.value c.in-Page.page c.requires.holds c.in-Page.is c.plan.result.now
    (ap (λ (z : Site). z.base.grounds.plan) c.requires.holds.own ∙ sym c.plan.ensures.plan)

pub write_present-answer-requires-clause-present : goal.write_present-answer-requires-clause-present
write_present-answer-requires-clause-present g c =
    held_present c.args.m.now c.args.pass.now c.args.at (length c.args.bytes.now) c.args.cell c.args.value c.in-Page.page c.requires.holds c.in-Page.is c.requires.lawful c.requires.link

pub end-requires-clause-may : goal.end-requires-clause-may
end-requires-clause-may g c =
    may_write c.args.m.now c.args.pass.now c.args.at (length c.args.bytes.now) c.args.cell c.args.value c.in-Page.page c.requires.holds c.in-Page.is
    c.plan.result.now (seals_of c.args.pass.now) _ c.args.bytes.now [] _ (part_of_page c.write_present-answer.new.page) c.set.new.self
    (c.plan.ensures.plan ∙ sym (ap (λ (z : Site). z.base.grounds.plan) c.requires.holds.own)) refl c.who.ensures refl
    (c.set.ensures ∙ ap (λ r. record c.args.pass.now { draft = access_stamp c.args.pass.now (Write c.args.at c.args.bytes.now) [] r }) c.write_reply.ensures.reply)
    (c.write_present-answer.ensures.writes (seals_of c.args.pass.now))

pub end-requires-clause-part : goal.end-requires-clause-part
end-requires-clause-part g c =
    let s : PassState = c.args.pass.now in
    let plan : c.plan.result.now ≡ plan_of s = c.plan.ensures.plan ∙ sym (ap (λ (z : Site). z.base.grounds.plan) c.requires.holds.own) in
    part_made c.args.m.now s c.set.new.self c.args.at (length c.args.bytes.now) c.args.cell c.args.value c.in-Page.page c.requires.holds c.in-Page.is _
    (c.set.ensures ∙ ap (λ r. record s { draft = access_stamp s (Write c.args.at c.args.bytes.now) [] r }) c.write_reply.ensures.reply) (part_of_page c.write_present-answer.new.page)
    (subst (λ (y : Plan × ℕ). part_of_page c.write_present-answer.new.page ≡ part_after y.0 (seals_of s) (write_stamp y.1 c.args.at c.args.bytes.now [] (write_reply c.write_present-answer.result)) (the_page (page_at y.0 c.args.at)) (part_of_page c.in-Page.page)) (λ i. (plan i, c.who.ensures i))
    (c.write_present-answer.ensures.writes (seals_of s)).made)

pub end-requires-clause-present : goal.end-requires-clause-present
end-requires-clause-present g c =
    let s : PassState = c.args.pass.now in
    subst (λ (k : Plan). IsPresent (all_frames k) c.write_present-answer.new.page.present)
    (c.plan.ensures.plan ∙ (sym (ap (λ (z : Site). z.base.grounds.plan) c.requires.holds.own) ∙ sym (ap (λ (y : PassState). plan_of y) c.set.ensures))) c.write_present-answer.ensures.page.present

pub returns-clause-entered : goal.returns-clause-entered
returns-clause-entered g c =
    entered_as c.args.pass.now c.set.new.self c.end.new.pass c.args.cell (access_stamp c.args.pass.now (Write c.args.at c.args.bytes.now) [] (write_reply c.write_present-answer.result))
    (c.set.ensures ∙ ap (λ r. record c.args.pass.now { draft = access_stamp c.args.pass.now (Write c.args.at c.args.bytes.now) [] r }) c.write_reply.ensures.reply) c.end.ensures
