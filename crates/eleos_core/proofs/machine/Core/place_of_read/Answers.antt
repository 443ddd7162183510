use Rattle.std.proofs.Common.{[], sym, ◌∙◌, ap, if◌then◌else◌}
use Rattle.eleos_core.specs.Accesses.{block_places}
use Rattle.eleos_core.specs.Cells.{part_with}
use Rattle.eleos_core.proofs.MachineAccesses.{any_seals, read_place-found}
use Rattle.eleos_core.proofs.Machines.{accepted_there, found, none_of, page_index, sub_index}
use Rattle.eleos_core.proofs.machine.Core.place_of_read.Goals as goal

pub index-page-requires : goal.index-page-requires
index-page-requires c =
    let there = accepted_there c.self.inside c.args.self.now c.self.view_is c.args.who c.args.at c.args.len c.spot_of-spot.result c.self.invariant c.requires (sym c.access_refusal.ensures ∙ none_of c.access_refusal.result (sym c.if-is_some.ensures)) c.spot_of-spot.ensures in
    page_index c.self.inside c.args.who c.args.at c.args.len c.spot_of-spot.result there

pub index-sub-requires : goal.index-sub-requires
index-sub-requires c =
    let there = accepted_there c.self.inside c.args.self.now c.self.view_is c.args.who c.args.at c.args.len c.spot_of-spot.result c.self.invariant c.requires (sym c.access_refusal.ensures ∙ none_of c.access_refusal.result (sym c.if-is_some.ensures)) c.spot_of-spot.ensures in
    let page = found c.self.inside c.args.who c.args.at c.args.len c.spot_of-spot.result there c.index-page.result.now c.index-page.ensures in
    sub_index c.self.inside c.args.who c.args.at c.args.len c.spot_of-spot.result c.index-page.result.now page

pub returns : goal.returns
returns c =
    let there = accepted_there c.self.inside c.args.self.now c.self.view_is c.args.who c.args.at c.args.len c.spot_of-spot.result c.self.invariant c.requires (sym c.access_refusal.ensures ∙ none_of c.access_refusal.result (sym c.if-is_some.ensures)) c.spot_of-spot.ensures in
    let page = found c.self.inside c.args.who c.args.at c.args.len c.spot_of-spot.result there c.index-page.result.now c.index-page.ensures in
    c.place_to_open.ensures ∙ ap (λ v. if v then [] else block_places c.spot_of-spot.result.place (part_with c.index-sub.result.now [])) c.is_some-2.ensures
    ∙ read_place-found c.self.inside c.args.self.now c.self.view_is c.self.invariant any_seals c.args.who c.args.at c.requires c.args.len c.spot_of-spot.result c.index-page.result.now c.index-sub.result.now page c.index-sub.ensures (sym c.access_refusal.ensures ∙ none_of c.access_refusal.result (sym c.if-is_some.ensures))
