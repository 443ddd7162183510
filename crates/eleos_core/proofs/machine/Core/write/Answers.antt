use Rattle.std.proofs.Common.{◌≡◌, [], length, map, Result, Ok, Err, OnErr, sym, ◌∙◌, ap, subst}
use Rattle.eleos_base.specs.declared.memory.Op.TheVariants.{Write}
use Rattle.eleos_core.specs.declared.event.Event.TheVariants.{Op}
use Rattle.eleos_core.specs.Accesses.{write_stamp}
use Rattle.eleos_core.specs.Applying.{Makes, parts_in, put_of, puts_in}
use Rattle.eleos_core.specs.Seals.{seals_by}
use Rattle.eleos_core.proofs.MachineAccesses.{accepted-found, write-made, write-puts, write-refused, write-refused_puts, write_blocks-found}
use Rattle.eleos_core.proofs.Machines.{accepted_there, found, page_index, view-kept}
use Rattle.eleos_core.proofs.machine.Core.write.Goals as goal

-- a fact beside an error
on_err : {T E : Type 0} {Q : Type 0} (r : Result T E) → Q → OnErr r Q
on_err (Ok x) q = tt
on_err (Err e) q = q

pub returns-in-Some-clause-makes : goal.returns-in-Some-clause-makes
returns-in-Some-clause-makes g c =
    subst (λ reply. Makes (seals_by (g.S.Sealer.key c.args.sealer.now)) (write_stamp c.args.who c.args.at c.args.bytes.now c.args.blocks.now reply) c.args.self.now c.args.self.now) (sym c.only_reply.ensures.reply)
    (write-refused c.self.inside c.args.self.now c.self.view_is c.self.invariant (seals_by (g.S.Sealer.key c.args.sealer.now)) c.args.who c.args.at c.requires.caller c.args.bytes.now c.args.blocks.now c.in-Some.refusal (sym c.in-Some.ensures) c.requires.blocks)

pub returns-in-Some-clause-puts : goal.returns-in-Some-clause-puts
returns-in-Some-clause-puts g c =
    ap (map put_of) c.only_reply.ensures.puts
    ∙ subst (λ reply. [] ≡ puts_in c.args.self.now.plan (seals_by (g.S.Sealer.key c.args.sealer.now)) (write_stamp c.args.who c.args.at c.args.bytes.now c.args.blocks.now reply) (parts_in c.args.self.now) (Op (Write c.args.at c.args.bytes.now)))
    (sym c.only_reply.ensures.reply) (sym (write-refused_puts c.self.inside c.args.self.now c.self.view_is c.self.invariant (seals_by (g.S.Sealer.key c.args.sealer.now)) c.args.who c.args.at c.requires.caller c.args.bytes.now c.args.blocks.now c.in-Some.refusal (sym c.in-Some.ensures)))

pub index_mut-page-requires : goal.index_mut-page-requires
index_mut-page-requires g c =
    let there = accepted_there c.self.inside c.args.self.now c.self.view_is c.args.who c.args.at (length c.args.bytes.now) c.spot_of-spot.result c.self.invariant c.requires.caller (sym c.in_default.ensures) c.spot_of-spot.ensures in
    page_index c.self.inside c.args.who c.args.at (length c.args.bytes.now) c.spot_of-spot.result there

pub write_page-requires-clause-page : goal.write_page-requires-clause-page
write_page-requires-clause-page g c =
    let there = accepted_there c.self.inside c.args.self.now c.self.view_is c.args.who c.args.at (length c.args.bytes.now) c.spot_of-spot.result c.self.invariant c.requires.caller (sym c.in_default.ensures) c.spot_of-spot.ensures in
    let page = found c.self.inside c.args.who c.args.at (length c.args.bytes.now) c.spot_of-spot.result there c.index_mut-page.result.now c.index_mut-page.ensures.value in
    page.is_page

pub write_page-requires-clause-accepted : goal.write_page-requires-clause-accepted
write_page-requires-clause-accepted g c =
    let there = accepted_there c.self.inside c.args.self.now c.self.view_is c.args.who c.args.at (length c.args.bytes.now) c.spot_of-spot.result c.self.invariant c.requires.caller (sym c.in_default.ensures) c.spot_of-spot.ensures in
    let page = found c.self.inside c.args.who c.args.at (length c.args.bytes.now) c.spot_of-spot.result there c.index_mut-page.result.now c.index_mut-page.ensures.value in
    accepted-found c.self.inside c.args.self.now c.self.view_is c.self.invariant (seals_by (g.S.Sealer.key c.args.sealer.now)) c.args.who c.args.at c.requires.caller (length c.args.bytes.now) c.spot_of-spot.result c.index_mut-page.result.now page (sym c.in_default.ensures)

pub write_page-requires-clause-blocks : goal.write_page-requires-clause-blocks
write_page-requires-clause-blocks g c =
    let there = accepted_there c.self.inside c.args.self.now c.self.view_is c.args.who c.args.at (length c.args.bytes.now) c.spot_of-spot.result c.self.invariant c.requires.caller (sym c.in_default.ensures) c.spot_of-spot.ensures in
    let page = found c.self.inside c.args.who c.args.at (length c.args.bytes.now) c.spot_of-spot.result there c.index_mut-page.result.now c.index_mut-page.ensures.value in
    write_blocks-found c.self.inside c.args.self.now c.self.view_is c.self.invariant (seals_by (g.S.Sealer.key c.args.sealer.now)) c.args.who c.args.at c.requires.caller c.args.bytes.now c.args.blocks.now c.spot_of-spot.result c.index_mut-page.result.now page (sym c.in_default.ensures) c.requires.blocks

pub returns-in_err-effect-clause-err : goal.returns-in_err-effect-clause-err
returns-in_err-effect-clause-err g c =
    let there = accepted_there c.self.inside c.args.self.now c.self.view_is c.args.who c.args.at (length c.args.bytes.now) c.spot_of-spot.result c.self.invariant c.requires.caller (sym c.in_default.ensures) c.spot_of-spot.ensures in
    let page = found c.self.inside c.args.who c.args.at (length c.args.bytes.now) c.spot_of-spot.result there c.index_mut-page.result.now c.index_mut-page.ensures.value in
    on_err c.from_residual.result (view-kept c.self.inside c.args.who c.args.at (length c.args.bytes.now) c.spot_of-spot.result c.index_mut-page.result.now page c.write_page.new.page c.in_err-effect.ensures.err ∙ c.self.view_is)

pub returns-clause-makes : goal.returns-clause-makes
returns-clause-makes g c =
    let there = accepted_there c.self.inside c.args.self.now c.self.view_is c.args.who c.args.at (length c.args.bytes.now) c.spot_of-spot.result c.self.invariant c.requires.caller (sym c.in_default.ensures) c.spot_of-spot.ensures in
    let page = found c.self.inside c.args.who c.args.at (length c.args.bytes.now) c.spot_of-spot.result there c.index_mut-page.result.now c.index_mut-page.ensures.value in
    write-made c.self.inside c.args.self.now c.self.view_is c.self.invariant (seals_by (g.S.Sealer.key c.args.sealer.now)) c.args.who c.args.at c.requires.caller c.args.bytes.now c.args.blocks.now c.in_ok-effect.effect.reply c.in_ok-effect.effect.puts c.spot_of-spot.result c.index_mut-page.result.now c.write_page.new.page page c.in_ok-effect.ensures.writes

pub returns-clause-puts : goal.returns-clause-puts
returns-clause-puts g c =
    let there = accepted_there c.self.inside c.args.self.now c.self.view_is c.args.who c.args.at (length c.args.bytes.now) c.spot_of-spot.result c.self.invariant c.requires.caller (sym c.in_default.ensures) c.spot_of-spot.ensures in
    let page = found c.self.inside c.args.who c.args.at (length c.args.bytes.now) c.spot_of-spot.result there c.index_mut-page.result.now c.index_mut-page.ensures.value in
    write-puts c.self.inside c.args.self.now c.self.view_is c.self.invariant (seals_by (g.S.Sealer.key c.args.sealer.now)) c.args.who c.args.at c.requires.caller c.args.bytes.now c.args.blocks.now c.in_ok-effect.effect.reply c.in_ok-effect.effect.puts c.spot_of-spot.result c.index_mut-page.result.now c.write_page.new.page page c.in_ok-effect.ensures.writes
