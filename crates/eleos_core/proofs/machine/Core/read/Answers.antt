use Rattle.std.proofs.Common.{sym}
use Rattle.std.proofs.lemmas.Result.{IfOk-weaker}
use Rattle.eleos_core.specs.Accesses.{ReadsPage, read_stamp}
use Rattle.eleos_core.specs.Applying.{Makes}
use Rattle.eleos_core.specs.Cells.{part_of_page}
use Rattle.eleos_core.specs.Seals.{seals_by}
use Rattle.eleos_core.proofs.MachineAccesses.{accepted-found, read-made, read-refused, read_blocks-found}
use Rattle.eleos_core.proofs.Machines.{accepted_there, found, page_index}
use Rattle.eleos_core.proofs.machine.Core.read.Goals as goal

pub returns-in-Some : goal.returns-in-Some
returns-in-Some g c = read-refused c.self.inside c.args.self.now c.self.view_is c.self.invariant (seals_by (g.S.Sealer.key c.args.sealer.now)) c.args.who c.args.at c.requires.caller c.args.len c.args.blocks.now c.in-Some.refusal (sym c.in-Some.ensures) c.requires.blocks

pub index-page-requires : goal.index-page-requires
index-page-requires g c =
    let there = accepted_there c.self.inside c.args.self.now c.self.view_is c.args.who c.args.at c.args.len c.spot_of-spot.result c.self.invariant c.requires.caller (sym c.in_default.ensures) c.spot_of-spot.ensures in
    page_index c.self.inside c.args.who c.args.at c.args.len c.spot_of-spot.result there

pub read_page-requires-clause-page : goal.read_page-requires-clause-page
read_page-requires-clause-page g c =
    let there = accepted_there c.self.inside c.args.self.now c.self.view_is c.args.who c.args.at c.args.len c.spot_of-spot.result c.self.invariant c.requires.caller (sym c.in_default.ensures) c.spot_of-spot.ensures in
    let page = found c.self.inside c.args.who c.args.at c.args.len c.spot_of-spot.result there c.index-page.result.now c.index-page.ensures in
    page.is_page

pub read_page-requires-clause-accepted : goal.read_page-requires-clause-accepted
read_page-requires-clause-accepted g c =
    let there = accepted_there c.self.inside c.args.self.now c.self.view_is c.args.who c.args.at c.args.len c.spot_of-spot.result c.self.invariant c.requires.caller (sym c.in_default.ensures) c.spot_of-spot.ensures in
    let page = found c.self.inside c.args.who c.args.at c.args.len c.spot_of-spot.result there c.index-page.result.now c.index-page.ensures in
    accepted-found c.self.inside c.args.self.now c.self.view_is c.self.invariant (seals_by (g.S.Sealer.key c.args.sealer.now)) c.args.who c.args.at c.requires.caller c.args.len c.spot_of-spot.result c.index-page.result.now page (sym c.in_default.ensures)

pub read_page-requires-clause-blocks : goal.read_page-requires-clause-blocks
read_page-requires-clause-blocks g c =
    let there = accepted_there c.self.inside c.args.self.now c.self.view_is c.args.who c.args.at c.args.len c.spot_of-spot.result c.self.invariant c.requires.caller (sym c.in_default.ensures) c.spot_of-spot.ensures in
    let page = found c.self.inside c.args.who c.args.at c.args.len c.spot_of-spot.result there c.index-page.result.now c.index-page.ensures in
    read_blocks-found c.self.inside c.args.self.now c.self.view_is c.self.invariant (seals_by (g.S.Sealer.key c.args.sealer.now)) c.args.who c.args.at c.requires.caller c.args.len c.args.blocks.now c.spot_of-spot.result c.index-page.result.now page (sym c.in_default.ensures) c.requires.blocks

pub returns : goal.returns
returns g c =
    let there = accepted_there c.self.inside c.args.self.now c.self.view_is c.args.who c.args.at c.args.len c.spot_of-spot.result c.self.invariant c.requires.caller (sym c.in_default.ensures) c.spot_of-spot.ensures in
    let page = found c.self.inside c.args.who c.args.at c.args.len c.spot_of-spot.result there c.index-page.result.now c.index-page.ensures in
    IfOk-weaker c.read_page.result (λ reply. ReadsPage c.self.inside.plan (seals_by (g.S.Sealer.key c.args.sealer.now)) c.args.who c.args.at c.args.len c.args.blocks.now (part_of_page c.index-page.result.now) reply)
    (λ reply. Makes (seals_by (g.S.Sealer.key c.args.sealer.now)) (read_stamp c.args.who c.args.at c.args.len c.args.blocks.now reply) c.args.self.now c.args.self.now)
    (λ reply reads. read-made c.self.inside c.args.self.now c.self.view_is c.self.invariant (seals_by (g.S.Sealer.key c.args.sealer.now)) c.args.who c.args.at c.requires.caller c.args.len c.args.blocks.now reply c.spot_of-spot.result c.index-page.result.now page reads) c.read_page.ensures
