use Rattle.std.proofs.Common.{Err, refl, ◌+◌, ◌-◌, ◌*◌, ◌<◌, sym, ◌∙◌, ap, subst, []}
use Rattle.eleos_base.specs.Places.{all_pages}
use Rattle.std.specs.Vec.{with_item}
use Rattle.eleos_core.specs.declared.machine.ApplyRefused.TheVariants.{NoMemory}
use Rattle.eleos_core.specs.Cells.{Cells}
use Rattle.eleos_core.proofs.LinkCells.{link-made, link-refused, link_index}
use Rattle.eleos_core.proofs.MachineAccesses.{any_seals}
use Rattle.eleos_core.proofs.Machines.{accepted_there, page_within, view_of}
use Rattle.eleos_base.specs.declared.memory.Part.TheVariants.{Absent}
use Rattle.eleos_core.specs.declared.event.Event.TheVariants.{Link}
use Rattle.eleos_core.specs.Accesses.{link_stamp, may_link}
use Rattle.eleos_core.specs.Applying.{Makes}
use Rattle.eleos_core.proofs.ApplyingLinks.{allowed, link_applies, link_illegal}
use Rattle.eleos_core.proofs.Effects.{came, refused, wanting}
use Rattle.eleos_core.proofs.machine.Core.apply_link.Goals as goal

pub returns-in-Some : goal.returns-in-Some
returns-in-Some c = λ x. refused x c.args.self.now c.args.who (Link c.args.at) [] c.in-Some.part (link_illegal x c.args.self.now c.args.who c.args.at c.in-Some.part c.in-Some.ensures)

pub returns-in-Some-access_refusal : goal.returns-in-Some-access_refusal
returns-in-Some-access_refusal c = λ x. came x c.args.self.now c.args.who (Link c.args.at) [] c.args.self.now c.only_reply.result
    (link_applies x c.args.self.now c.args.who c.args.self.now c.args.at c.only_reply.result.reply c.only_reply.result.puts c.only_reply.ensures.puts
    (subst (λ reply. Makes x (link_stamp c.args.who c.args.at reply) c.args.self.now c.args.self.now) (sym c.only_reply.ensures.reply) (link-refused c.self.inside c.args.self.now c.self.view_is c.self.invariant x c.args.who c.requires.caller c.args.at c.in-Some-access_refusal.refusal (sym c.in-Some-access_refusal.ensures))))
    c.only_reply.ensures.blocks

pub index-links-requires : goal.index-links-requires
index-links-requires c =
    let there = accepted_there c.self.inside c.args.self.now c.self.view_is c.args.who c.args.at 1 c.spot_of-page.result c.self.invariant c.requires.caller (sym c.in_default-access_refusal.ensures) c.spot_of-page.ensures in
    let inside : c.spot_of-page.result.page < all_pages c.self.inside.plan = subst (λ n. n < all_pages c.self.inside.plan) (sym c.spot_of-page.ensures.page) (page_within c.self.inside c.args.who c.args.at 1 c.spot_of-page.result there) in
    let index = link_index c.self.inside c.args.self.now c.self.view_is c.self.invariant any_seals c.args.who c.requires.caller c.spot_of-page.result.page c.link_place-place.result inside (c.link_place-place.ensures ∙ ap (λ n. (c.args.who - 1) * n + c.spot_of-page.result.page) c.len.ensures) in
    index.2

pub index_mut-requires : goal.index_mut-requires
index_mut-requires c =
    let there = accepted_there c.self.inside c.args.self.now c.self.view_is c.args.who c.args.at 1 c.spot_of-page.result c.self.invariant c.requires.caller (sym c.in_default-access_refusal.ensures) c.spot_of-page.ensures in
    let inside : c.spot_of-page.result.page < all_pages c.self.inside.plan = subst (λ n. n < all_pages c.self.inside.plan) (sym c.spot_of-page.ensures.page) (page_within c.self.inside c.args.who c.args.at 1 c.spot_of-page.result there) in
    let index = link_index c.self.inside c.args.self.now c.self.view_is c.self.invariant any_seals c.args.who c.requires.caller c.spot_of-page.result.page c.link_place-place.result inside (c.link_place-place.ensures ∙ ap (λ n. (c.args.who - 1) * n + c.spot_of-page.result.page) c.len.ensures) in
    index.2

pub returns-in_default-checked_add : goal.returns-in_default-checked_add
returns-in_default-checked_add c = λ x. wanting x c.args.self.now c.args.who (Link c.args.at) [] (Err NoMemory) c.args.self.now refl refl
    (allowed (may_link c.args.self.now c.args.who c.args.at) Absent c.in_default.ensures)

pub returns : goal.returns
returns c = λ x.
    let there = accepted_there c.self.inside c.args.self.now c.self.view_is c.args.who c.args.at 1 c.spot_of-page.result c.self.invariant c.requires.caller (sym c.in_default-access_refusal.ensures) c.spot_of-page.ensures in
    let left : Cells = view_of (record c.self.inside { links = with_item c.self.inside.links c.link_place-place.result c.in-Some-checked_add.more }) in
    came x c.args.self.now c.args.who (Link c.args.at) [] left c.only_reply-2.result
    (link_applies x c.args.self.now c.args.who left c.args.at c.only_reply-2.result.reply c.only_reply-2.result.puts c.only_reply-2.ensures.puts
    (subst (λ reply. Makes x (link_stamp c.args.who c.args.at reply) c.args.self.now left) (sym c.only_reply-2.ensures.reply) (rw c.in-Some-checked_add.ensures.1 (link-made c.self.inside c.args.self.now c.self.view_is c.self.invariant x c.args.who c.requires.caller c.args.at c.spot_of-page.result c.link_place-place.result c.index-links.result.now there (sym c.in_default-access_refusal.ensures) (allowed (may_link c.args.self.now c.args.who c.args.at) Absent c.in_default.ensures) (c.link_place-place.ensures ∙ ap (λ n. (c.args.who - 1) * n + c.spot_of-page.result.page) c.len.ensures) c.index-links.ensures))))
    c.only_reply-2.ensures.blocks
