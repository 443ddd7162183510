use Rattle.std.proofs.Common.{Some, None, sym, ◌∙◌, ap, if◌then◌else◌}
use Rattle.eleos_base.specs.declared.memory.Part.TheVariants.{Absent}
use Rattle.eleos_core.proofs.LinkCells.{may_link-found}
use Rattle.eleos_core.proofs.Machines.{accepted_there, found, none_of, page_index}
use Rattle.eleos_core.proofs.machine.Core.link_offence.Goals as goal

pub index-page-requires : goal.index-page-requires
index-page-requires c =
    let there = accepted_there c.self.inside c.args.self.now c.self.view_is c.args.who c.args.at 1 c.spot_of.result c.self.invariant c.requires (sym c.access_refusal.ensures ∙ none_of c.access_refusal.result (sym c.if-is_some.ensures)) c.spot_of.ensures in
    page_index c.self.inside c.args.who c.args.at 1 c.spot_of.result there

pub returns-then-is_some-2 : goal.returns-then-is_some-2
returns-then-is_some-2 c =
    let there = accepted_there c.self.inside c.args.self.now c.self.view_is c.args.who c.args.at 1 c.spot_of.result c.self.invariant c.requires (sym c.access_refusal.ensures ∙ none_of c.access_refusal.result (sym c.if-is_some.ensures)) c.spot_of.ensures in
    let page = found c.self.inside c.args.who c.args.at 1 c.spot_of.result there c.index-page.result.now c.index-page.ensures in
    ap (λ v. if v then None else Some Absent) (c.if-is_some-2.ensures ∙ sym (may_link-found c.self.inside c.args.self.now c.self.view_is c.args.who c.args.at c.spot_of.result c.index-page.result.now page (sym c.access_refusal.ensures ∙ none_of c.access_refusal.result (sym c.if-is_some.ensures))))

pub returns-else-is_some-2 : goal.returns-else-is_some-2
returns-else-is_some-2 c =
    let there = accepted_there c.self.inside c.args.self.now c.self.view_is c.args.who c.args.at 1 c.spot_of.result c.self.invariant c.requires (sym c.access_refusal.ensures ∙ none_of c.access_refusal.result (sym c.if-is_some.ensures)) c.spot_of.ensures in
    let page = found c.self.inside c.args.who c.args.at 1 c.spot_of.result there c.index-page.result.now c.index-page.ensures in
    ap (λ v. if v then None else Some Absent) (c.if-is_some-2.ensures ∙ sym (may_link-found c.self.inside c.args.self.now c.self.view_is c.args.who c.args.at c.spot_of.result c.index-page.result.now page (sym c.access_refusal.ensures ∙ none_of c.access_refusal.result (sym c.if-is_some.ensures))))
