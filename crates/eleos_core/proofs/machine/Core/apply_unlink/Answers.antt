use Rattle.std.proofs.Common.{◌+◌, ◌-◌, ◌*◌, ◌∙◌, ap, arith, [], subst, sym}
use Rattle.std.specs.Vec.{with_item}
use Rattle.eleos_core.specs.Cells.{Cells}
use Rattle.eleos_core.proofs.Machines.{view_of}
use Rattle.eleos_core.proofs.LinkCells.{all_pages-le, unlink-made}
use Rattle.eleos_core.specs.declared.event.Event.TheVariants.{Unlink}
use Rattle.eleos_core.specs.Accesses.{unlink_stamp}
use Rattle.eleos_core.specs.Applying.{Makes}
use Rattle.eleos_core.proofs.ApplyingLinks.{unlink_applies, unlink_illegal}
use Rattle.eleos_core.proofs.Effects.{came, refused}
use Rattle.eleos_core.proofs.machine.Core.apply_unlink.Goals as goal

pub returns-in-Some : goal.returns-in-Some
returns-in-Some c = λ x. refused x c.args.self.now c.args.who (Unlink c.args.page) [] c.in-Some.part (unlink_illegal x c.args.self.now c.args.who c.args.page c.in-Some.part c.in-Some.ensures)

pub link_place-place-requires-clause-pages : goal.link_place-place-requires-clause-pages
link_place-place-requires-clause-pages c =
    let s = c.self.inside in
    let most = all_pages-le s.plan c.self.invariant.good in
    let all = c.self.invariant.pages_are in
    let long = s.pages.ok.0 in
    let len = c.len.ensures in omega arith

pub returns : goal.returns
returns c = λ x.
    let left : Cells = view_of (record c.self.inside { links = with_item c.self.inside.links c.link_place-place.result (c.index_mut.result.now - 1) }) in
    came x c.args.self.now c.args.who (Unlink c.args.page) [] left c.only_reply.result
    (unlink_applies x c.args.self.now c.args.who left c.args.page c.only_reply.result.reply c.only_reply.result.puts
    c.requires.caller c.requires.page c.in_default.ensures c.only_reply.ensures.puts
    (subst (λ reply. Makes x (unlink_stamp c.args.who c.args.page reply) c.args.self.now left) (sym c.only_reply.ensures.reply) (unlink-made c.self.inside c.args.self.now c.self.view_is c.self.invariant x c.args.who c.requires.caller c.args.page c.link_place-place.result c.index_mut.result.now c.requires.page (c.link_place-place.ensures ∙ ap (λ n. (c.args.who - 1) * n + c.args.page) c.len.ensures) c.index_mut.ensures.value)))
    c.only_reply.ensures.blocks
