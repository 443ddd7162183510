use Rattle.std.proofs.Common.{◌≡◌, ℕ, [], refl, sym, ◌∙◌, ap, subst, length}
use Rattle.eleos_base.specs.declared.memory.Op.TheVariants.{Read}
use Rattle.eleos_base.specs.declared.plan.Plan.{Plan}
use Rattle.eleos_base.specs.Answers.{read_reply}
use Rattle.eleos_base.specs.Places.{all_frames}
use Rattle.eleos_core.specs.Accesses.{page_at, read_stamp}
use Rattle.eleos_core.specs.Cells.{IsPresent, part_of_page}
use Rattle.eleos_core.specs.Parts.{part_after, the_page}
use Rattle.eleos_machine.specs.Machines.{Site}
use Rattle.eleos_machine.specs.Passes.{PassState, plan_of, seals_of}
use Rattle.eleos_plot.specs.Refs.{op_of}
use Rattle.eleos_pages.specs.Held.{access_stamp}
use Rattle.eleos_pages.proofs.OnPages.{may_read, page_fits}
use Rattle.eleos_spointer.proofs.Accessing.{entered_as, held_present, part_made}
use Rattle.eleos_spointer.proofs.reads.read_held.Goals as goal

pub read_present-answer-requires-clause-page : goal.read_present-answer-requires-clause-page
read_present-answer-requires-clause-page g c =
    page_fits c.args.m.now c.args.pass.now c.args.at (length c.args.buf.now) c.args.cell c.args.value c.in-Page.page c.requires.holds c.in-Page.is c.plan.result.now
    (ap (λ (z : Site). z.base.grounds.plan) c.requires.holds.own ∙ sym c.plan.ensures.plan)

pub read_present-answer-requires-clause-present : goal.read_present-answer-requires-clause-present
read_present-answer-requires-clause-present g c =
    held_present c.args.m.now c.args.pass.now c.args.at (length c.args.buf.now) c.args.cell c.args.value c.in-Page.page c.requires.holds c.in-Page.is c.requires.lawful c.requires.link

pub end-requires-clause-may : goal.end-requires-clause-may
end-requires-clause-may g c =
    may_read c.args.m.now c.args.pass.now c.args.at (length c.args.buf.now) c.args.cell c.args.value c.in-Page.page c.requires.holds c.in-Page.is
    c.plan.result.now (seals_of c.args.pass.now) _ [] _ (length c.read_present-answer.new.buf) c.set.new.self
    (c.plan.ensures.plan ∙ sym (ap (λ (z : Site). z.base.grounds.plan) c.requires.holds.own)) refl c.who.ensures c.read_present-answer.auto.buf
    (c.set.ensures ∙ (λ i. record c.args.pass.now { draft = access_stamp c.args.pass.now (op_of (c.read_of.ensures i)) [] (c.read_reply.ensures.reply i) }))
    (c.read_present-answer.ensures.reads (seals_of c.args.pass.now))

pub end-requires-clause-part : goal.end-requires-clause-part
end-requires-clause-part g c =
    let s : PassState = c.args.pass.now in
    let plan : c.plan.result.now ≡ plan_of s = c.plan.ensures.plan ∙ sym (ap (λ (z : Site). z.base.grounds.plan) c.requires.holds.own) in
    part_made c.args.m.now s c.set.new.self c.args.at (length c.args.buf.now) c.args.cell c.args.value c.in-Page.page c.requires.holds c.in-Page.is _
    (c.set.ensures ∙ ((λ i. record s { draft = access_stamp s (op_of (c.read_of.ensures i)) [] (c.read_reply.ensures.reply i) })
    ∙ ap (λ (n : ℕ). record s { draft = access_stamp s (Read c.args.at n) [] (read_reply c.read_present-answer.result c.read_present-answer.new.buf) }) c.read_present-answer.auto.buf)) (part_of_page c.in-Page.page)
    (subst (λ (y : Plan × ℕ). part_of_page c.in-Page.page ≡ part_after y.0 (seals_of s) (read_stamp y.1 c.args.at (length c.args.buf.now) [] (read_reply c.read_present-answer.result c.read_present-answer.new.buf)) (the_page (page_at y.0 c.args.at)) (part_of_page c.in-Page.page)) (λ i. (plan i, c.who.ensures i))
    (c.read_present-answer.ensures.reads (seals_of s)).same)

pub end-requires-clause-present : goal.end-requires-clause-present
end-requires-clause-present g c =
    let fits = page_fits c.args.m.now c.args.pass.now c.args.at (length c.args.buf.now) c.args.cell c.args.value c.in-Page.page c.requires.holds c.in-Page.is (plan_of c.args.pass.now) refl in
    subst (λ (s : PassState). IsPresent (all_frames (plan_of s)) c.in-Page.page.present) (sym c.set.ensures) fits.present

pub returns-clause-entered : goal.returns-clause-entered
returns-clause-entered g c =
    entered_as c.args.pass.now c.set.new.self c.end.new.pass c.args.cell (access_stamp c.args.pass.now (Read c.args.at (length c.args.buf.now)) [] (read_reply c.read_present-answer.result c.read_present-answer.new.buf))
    (c.set.ensures ∙ ((λ i. record c.args.pass.now { draft = access_stamp c.args.pass.now (op_of (c.read_of.ensures i)) [] (c.read_reply.ensures.reply i) })
    ∙ ap (λ (n : ℕ). record c.args.pass.now { draft = access_stamp c.args.pass.now (Read c.args.at n) [] (read_reply c.read_present-answer.result c.read_present-answer.new.buf) }) c.read_present-answer.auto.buf)) c.end.ensures
