use Rattle.std.proofs.Common.{◌<◌, ◌∙◌, ap, arith, length}
use Rattle.std.proofs.lemmas.Option.{IfSome_then}
use Rattle.eleos_core.specs.Seals.{Seals, seals_by}
use Rattle.eleos_core.proofs.Filling.{length-zeros}
use Rattle.eleos_core.proofs.PlaceNumbers.{most_pages}
use Rattle.eleos_core.proofs.QuietEntries.{fit_in, makes_in, none_then, page_in, passed_in, spoiled_in}
use Rattle.eleos_core.proofs.machine.Core.spoiled.Goals as goal

pub open_subs-requires-clause-room : goal.open_subs-requires-clause-room
open_subs-requires-clause-room g c = ap length c.zero_page-text.ensures ∙ length-zeros 4096

pub open_subs-requires-clause-page : goal.open_subs-requires-clause-page
open_subs-requires-clause-page g c =
    let s = c.self.inside in
    let small : c.spot_of-page.result.page < length s.pages.items = page_in s.plan s.live.items s.clocks.items s.pages.items s.frames.items s.links.items c.self.invariant c.args.self.now c.self.view_is c.args.wanted.now c.address_of.result c.address_of.ensures
    c.spot_of-page.result c.index.result.now c.deref.result.now c.deref.ensures.value c.spot_of-page.ensures c.requires.page c.requires.absent c.index.ensures in
    let few = most_pages s.plan c.self.invariant.good in let all = c.self.invariant.pages_are in omega arith

pub open_subs-requires-clause-fit : goal.open_subs-requires-clause-fit
open_subs-requires-clause-fit g c =
    let s = c.self.inside in
    fit_in s.plan s.live.items s.clocks.items s.pages.items s.frames.items s.links.items c.self.invariant c.args.self.now c.self.view_is c.args.wanted.now c.address_of.result c.address_of.ensures
    c.spot_of-page.result c.index.result.now c.deref.result.now c.deref.ensures.value c.spot_of-page.ensures c.requires.page c.requires.absent c.index.ensures c.args.blocks.now c.requires.fit

pub returns-clause-spoiled : goal.returns-clause-spoiled
returns-clause-spoiled g c =
    let s = c.self.inside in
    let x : Seals = seals_by (g.S.Sealer.key c.args.sealer.now) in
    IfSome_then c.open_subs.result c.open_subs.ensures.spoiled (λ found judged.
    spoiled_in s.plan s.live.items s.clocks.items s.pages.items s.frames.items s.links.items c.self.invariant c.args.self.now c.self.view_is c.args.wanted.now c.address_of.result c.address_of.ensures
    c.spot_of-page.result c.index.result.now c.deref.result.now c.deref.ensures.value c.spot_of-page.ensures c.requires.page c.requires.absent c.index.ensures x c.args.blocks.now found (judged s.plan))

pub returns-clause-passed : goal.returns-clause-passed
returns-clause-passed g c =
    let s = c.self.inside in
    let x : Seals = seals_by (g.S.Sealer.key c.args.sealer.now) in
    none_then c.open_subs.result _ _ (λ judged.
    passed_in s.plan s.live.items s.clocks.items s.pages.items s.frames.items s.links.items c.self.invariant c.args.self.now c.self.view_is c.args.wanted.now c.address_of.result c.address_of.ensures
    c.spot_of-page.result c.index.result.now c.deref.result.now c.deref.ensures.value c.spot_of-page.ensures c.requires.page c.requires.absent c.index.ensures x c.args.blocks.now (judged s.plan)) c.open_subs.ensures.passed

pub returns-clause-makes : goal.returns-clause-makes
returns-clause-makes g c = λ who caller waiting.
    let s = c.self.inside in
    let x : Seals = seals_by (g.S.Sealer.key c.args.sealer.now) in
    IfSome_then c.open_subs.result c.open_subs.ensures.spoiled (λ found judged.
    makes_in s.plan s.live.items s.clocks.items s.pages.items s.frames.items s.links.items c.self.invariant c.args.self.now c.self.view_is c.args.wanted.now c.address_of.result c.address_of.ensures
    c.spot_of-page.result c.index.result.now c.deref.result.now c.deref.ensures.value c.spot_of-page.ensures c.requires.page c.requires.absent c.index.ensures x c.args.blocks.now found who caller waiting
    (spoiled_in s.plan s.live.items s.clocks.items s.pages.items s.frames.items s.links.items c.self.invariant c.args.self.now c.self.view_is c.args.wanted.now c.address_of.result c.address_of.ensures
    c.spot_of-page.result c.index.result.now c.deref.result.now c.deref.ensures.value c.spot_of-page.ensures c.requires.page c.requires.absent c.index.ensures x c.args.blocks.now found (judged s.plan)))
