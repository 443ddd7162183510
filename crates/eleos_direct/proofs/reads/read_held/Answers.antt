use Rattle.std.proofs.Common.{refl, sym, ◌∙◌, ap, subst, length}
use Rattle.eleos_core.specs.Cells.{IsPresent}
use Rattle.eleos_base.specs.Places.{all_frames}
use Rattle.eleos_core.specs.Seals.{seals_by}
use Rattle.eleos_machine.specs.Machines.{Site}
use Rattle.eleos_machine.specs.Passes.{PassState, plan_of}
use Rattle.eleos_pages.specs.Crossed.{came}
use Rattle.eleos_pages.specs.Held.{access_stamp}
use Rattle.eleos_plot.specs.Refs.{op_of}
use Rattle.eleos_direct.proofs.OnPages.{has_read}
use Rattle.eleos_pages.proofs.OnPages.{may_read, page_fits}
use Rattle.eleos_direct.proofs.reads.read_held.Goals as goal

pub read_page-accessed-requires-clause-page : goal.read_page-accessed-requires-clause-page
read_page-accessed-requires-clause-page g c =
    page_fits c.args.m.now c.args.pass.now c.args.at (length c.args.buf.now) c.args.cell c.args.value c.in-Page.page c.requires.holds c.in-Page.is c.plan.result.now
    (ap (λ (z : Site). z.base.grounds.plan) c.requires.holds.own ∙ sym c.plan.ensures.plan)

pub end-requires-clause-may : goal.end-requires-clause-may
end-requires-clause-may g c =
    may_read c.args.m.now c.args.pass.now c.args.at (length c.args.buf.now) c.args.cell c.args.value c.in-Page.page c.requires.holds c.in-Page.is
    c.plan.result.now (seals_by (g.S.Sealer.key c.sealer.result.now)) _ _ _ (length c.read_page-accessed.new.buf) c.draft.new.pass
    (c.plan.ensures.plan ∙ sym (ap (λ (z : Site). z.base.grounds.plan) c.requires.holds.own))
    (ap seals_by (c.sealer.ensures ∙ sym (ap (λ (z : Site). z.base.grounds.key) c.requires.holds.own)))
    c.who.ensures c.read_page-accessed.auto.buf (c.draft.ensures ∙ (λ i. record c.args.pass.now { draft = access_stamp c.args.pass.now (op_of (c.read_of.ensures i)) (came c.read_page-accessed.new.tap) (c.read_reply-reply.ensures.reply i) })) c.read_page-accessed.ensures.reads

pub end-requires-clause-present : goal.end-requires-clause-present
end-requires-clause-present g c =
    let fits = page_fits c.args.m.now c.args.pass.now c.args.at (length c.args.buf.now) c.args.cell c.args.value c.in-Page.page c.requires.holds c.in-Page.is (plan_of c.args.pass.now) refl in
    subst (λ (s : PassState). IsPresent (all_frames (plan_of s)) c.in-Page.page.present) (sym c.draft.ensures) fits.present

pub returns-clause-accessed : goal.returns-clause-accessed
returns-clause-accessed g c =
    has_read c.args.m.now c.args.pass.now c.args.at (length c.args.buf.now) c.args.cell c.args.value c.in-Page.page c.requires.holds c.in-Page.is
    g.P.HostPort g.P.HostStore c.args.tap.now c.read_page-accessed.new.tap c.plan.result.now _ (length c.read_page-accessed.new.buf) c.draft.new.pass c.end.new.pass
    (c.plan.ensures.plan ∙ sym (ap (λ (z : Site). z.base.grounds.plan) c.requires.holds.own)) c.read_page-accessed.auto.buf (c.draft.ensures ∙ (λ i. record c.args.pass.now { draft = access_stamp c.args.pass.now (op_of (c.read_of.ensures i)) (came c.read_page-accessed.new.tap) (c.read_reply-reply.ensures.reply i) }))
    c.end.ensures c.read_page-accessed.ensures.crossed c.read_page-accessed.ensures.failed
