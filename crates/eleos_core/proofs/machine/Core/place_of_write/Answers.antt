use Rattle.std.proofs.Common.{[], length, is_some, sym, ◌∙◌, ap, if◌then◌else◌}
use Rattle.eleos_core.specs.Accesses.{block_places}
use Rattle.eleos_core.specs.Cells.{part_with}
use Rattle.eleos_core.proofs.MachineAccesses.{any_seals, write_place-found}
use Rattle.eleos_core.proofs.Machines.{accepted_there, found, none_of, page_index, sub_index}
use Rattle.eleos_core.proofs.machine.Core.place_of_write.Goals as goal

pub index-page-requires : goal.index-page-requires
index-page-requires c =
    let there = accepted_there c.self.inside c.args.self.now c.self.view_is c.args.who c.args.at (length c.args.bytes.now) c.spot_of-spot.result c.self.invariant c.requires (sym c.access_refusal.ensures ∙ none_of c.access_refusal.result (sym c.if-is_some.ensures)) c.spot_of-spot.ensures in
    page_index c.self.inside c.args.who c.args.at (length c.args.bytes.now) c.spot_of-spot.result there

pub index-sub-requires : goal.index-sub-requires
index-sub-requires c =
    let there = accepted_there c.self.inside c.args.self.now c.self.view_is c.args.who c.args.at (length c.args.bytes.now) c.spot_of-spot.result c.self.invariant c.requires (sym c.access_refusal.ensures ∙ none_of c.access_refusal.result (sym c.if-is_some.ensures)) c.spot_of-spot.ensures in
    let page = found c.self.inside c.args.who c.args.at (length c.args.bytes.now) c.spot_of-spot.result there c.index-page.result.now c.index-page.ensures in
    sub_index c.self.inside c.args.who c.args.at (length c.args.bytes.now) c.spot_of-spot.result c.index-page.result.now page

pub returns-then-is_worn : goal.returns-then-is_worn
returns-then-is_worn c =
    let there = accepted_there c.self.inside c.args.self.now c.self.view_is c.args.who c.args.at (length c.args.bytes.now) c.spot_of-spot.result c.self.invariant c.requires (sym c.access_refusal.ensures ∙ none_of c.access_refusal.result (sym c.if-is_some.ensures)) c.spot_of-spot.ensures in
    let page = found c.self.inside c.args.who c.args.at (length c.args.bytes.now) c.spot_of-spot.result there c.index-page.result.now c.index-page.ensures in
    ap (λ v. if v then [] else if is_some c.index-page.result.now.present then [] else block_places c.spot_of-spot.result.place (part_with c.index-sub.result.now [])) c.if-is_worn.ensures
    ∙ write_place-found c.self.inside c.args.self.now c.self.view_is c.self.invariant any_seals c.args.who c.args.at c.requires c.args.bytes.now c.spot_of-spot.result c.index-page.result.now c.index-sub.result.now page c.index-sub.ensures (sym c.access_refusal.ensures ∙ none_of c.access_refusal.result (sym c.if-is_some.ensures))

pub returns : goal.returns
returns c =
    let there = accepted_there c.self.inside c.args.self.now c.self.view_is c.args.who c.args.at (length c.args.bytes.now) c.spot_of-spot.result c.self.invariant c.requires (sym c.access_refusal.ensures ∙ none_of c.access_refusal.result (sym c.if-is_some.ensures)) c.spot_of-spot.ensures in
    let page = found c.self.inside c.args.who c.args.at (length c.args.bytes.now) c.spot_of-spot.result there c.index-page.result.now c.index-page.ensures in
    c.place_to_open.ensures ∙ ap (λ v. if v then [] else block_places c.spot_of-spot.result.place (part_with c.index-sub.result.now [])) c.is_some-2.ensures
    ∙ (ap (λ v. if v then [] else if is_some c.index-page.result.now.present then [] else block_places c.spot_of-spot.result.place (part_with c.index-sub.result.now [])) c.if-is_worn.ensures
    ∙ write_place-found c.self.inside c.args.self.now c.self.view_is c.self.invariant any_seals c.args.who c.args.at c.requires c.args.bytes.now c.spot_of-spot.result c.index-page.result.now c.index-sub.result.now page c.index-sub.ensures (sym c.access_refusal.ensures ∙ none_of c.access_refusal.result (sym c.if-is_some.ensures)))
