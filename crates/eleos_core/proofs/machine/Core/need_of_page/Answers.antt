use Rattle.std.proofs.Common.{◌≡◌, ◌*◌, ◌∙◌, sym, ap, arith}
use Rattle.eleos_core.specs.Cells.{part_of_page}
use Rattle.eleos_core.specs.Fills.{page_in, sealed_places}
use Rattle.eleos_core.specs.Parts.{sealed_from}
use Rattle.eleos_core.proofs.Needing.{bare, sealed_bare}
use Rattle.eleos_core.proofs.PlaceNumbers.{most_pages}
use Rattle.eleos_core.proofs.TwoCells.{page_part_is}
use Rattle.eleos_core.proofs.machine.Core.need_of_page.Goals as goal

pub overflow_mul-page : goal.overflow_mul-page
overflow_mul-page c =
    let most = most_pages c.self.inside.plan c.self.invariant.good in
    let exists = rw (← c.self.view_is) at c.requires in
    omega arith

pub returns : goal.returns
returns c =
    let page_part : page_in c.args.self.now c.args.page ≡ part_of_page c.index.result.now = rw (← c.self.view_is) (page_part_is c.self.inside.plan c.self.inside.live.items c.self.inside.clocks.items c.self.inside.pages.items c.self.inside.frames.items c.self.inside.links.items c.self.invariant
    c.args.page (rw (← c.self.view_is) at c.requires) c.index.result.now c.index.ensures) in
    c.sealed_among.ensures
    ∙ (ap (λ us. sealed_from (c.args.page * 4) (bare us)) c.deref.ensures.value
    ∙ (sym (sealed_bare (c.args.page * 4) c.index.result.now.subs.items c.index.result.now.present)
    ∙ ap (sealed_places c.args.page) (sym page_part)))

pub sealed_among-requires-clause-first : goal.sealed_among-requires-clause-first
sealed_among-requires-clause-first c =
    let most = most_pages c.self.inside.plan c.self.invariant.good in
    let exists = rw (← c.self.view_is) at c.requires in
    omega arith
