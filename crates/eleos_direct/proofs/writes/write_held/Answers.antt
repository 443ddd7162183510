use Rattle.std.proofs.Common.{refl, sym, ◌∙◌, ap, length}
use Rattle.eleos_core.specs.Seals.{seals_by}
use Rattle.eleos_machine.specs.Machines.{Site}
use Rattle.eleos_base.specs.declared.memory.Op.TheVariants.{Write}
use Rattle.eleos_pages.specs.Crossed.{came}
use Rattle.eleos_pages.specs.Held.{access_stamp}
use Rattle.eleos_direct.proofs.OnPages.{has_written}
use Rattle.eleos_pages.proofs.OnPages.{may_write, page_fits}
use Rattle.eleos_direct.proofs.writes.write_held.Goals as goal

pub write_page-accessed-requires-clause-page : goal.write_page-accessed-requires-clause-page
write_page-accessed-requires-clause-page g c =
    page_fits c.args.m.now c.args.pass.now c.args.at (length c.args.bytes.now) c.args.cell c.args.value c.in-Page.page c.requires.holds c.in-Page.is c.plan.result.now
    (ap (λ (z : Site). z.base.grounds.plan) c.requires.holds.own ∙ sym c.plan.ensures.plan)

pub end-requires-clause-may : goal.end-requires-clause-may
end-requires-clause-may g c =
    may_write c.args.m.now c.args.pass.now c.args.at (length c.args.bytes.now) c.args.cell c.args.value c.in-Page.page c.requires.holds c.in-Page.is
    c.plan.result.now (seals_by (g.S.Sealer.key c.sealer.result.now)) _ c.args.bytes.now _ _ _ c.draft.new.pass
    (c.plan.ensures.plan ∙ sym (ap (λ (z : Site). z.base.grounds.plan) c.requires.holds.own))
    (ap seals_by (c.sealer.ensures ∙ sym (ap (λ (z : Site). z.base.grounds.key) c.requires.holds.own)))
    c.who.ensures refl (c.draft.ensures ∙ ap (λ r. record c.args.pass.now { draft = access_stamp c.args.pass.now (Write c.args.at c.args.bytes.now) (came c.write_page-accessed.new.tap) r }) c.write_reply-reply.ensures.reply) c.write_page-accessed.ensures.writes

pub returns : goal.returns
returns g c =
    has_written c.args.m.now c.args.pass.now c.args.at (length c.args.bytes.now) c.args.cell c.args.value c.in-Page.page c.requires.holds c.in-Page.is
    g.P.HostPort g.P.HostStore c.args.tap.now c.write_page-accessed.new.tap c.plan.result.now (seals_by (g.S.Sealer.key c.sealer.result.now)) _ c.args.bytes.now _ c.draft.new.pass c.end.new.pass
    (c.plan.ensures.plan ∙ sym (ap (λ (z : Site). z.base.grounds.plan) c.requires.holds.own))
    (ap seals_by (c.sealer.ensures ∙ sym (ap (λ (z : Site). z.base.grounds.key) c.requires.holds.own))) c.who.ensures (c.draft.ensures ∙ ap (λ r. record c.args.pass.now { draft = access_stamp c.args.pass.now (Write c.args.at c.args.bytes.now) (came c.write_page-accessed.new.tap) r }) c.write_reply-reply.ensures.reply)
    c.end.ensures c.write_page-accessed.ensures.crossed c.write_page-accessed.ensures.failed
