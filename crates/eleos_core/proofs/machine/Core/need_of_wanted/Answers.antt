use Rattle.std.proofs.Common.{◌≡◌, ◌≤◌, ◌∙◌, [], length, subst, arith}
use Rattle.eleos_base.specs.declared.memory.Addr.{Addr}
use Rattle.eleos_core.specs.Accesses.{page_for}
use Rattle.eleos_core.specs.Cells.{Cells, cells_of}
use Rattle.eleos_core.specs.Fills.{sealed_places}
use Rattle.eleos_base.specs.Places.{all_pages, page_of, sub_of}
use Rattle.eleos_core.specs.Quiet.{wanted_page, wanted_part}
use Rattle.eleos_core.proofs.WaitingPages.{beyond, unsealed_beyond}
use Rattle.eleos_core.proofs.machine.Core.need_of_wanted.Goals as goal

pub returns-then-at-len : goal.returns-then-at-len
returns-then-at-len c =
    let s = c.self.inside in
    let view : Cells = cells_of s.plan s.live.items s.clocks.items s.pages.items s.frames.items s.links.items in
    let out : length s.plan.enclaves ≤ c.address_of-at.result.enclave = omega (arith, c.len.ensures, c.if-at-len.true) in
    c.none.ensures ∙ subst (λ (m : Cells). [] ≡ sealed_places (wanted_page m c.args.wanted.now) (wanted_part m c.args.wanted.now)) c.self.view_is
    (subst (λ (at : Addr). [] ≡ sealed_places (page_of s.plan (sub_of s.plan at)) (page_for view at)) c.address_of-at.ensures
    (unsealed_beyond s.plan s.live.items s.clocks.items s.pages.items s.frames.items s.links.items c.self.invariant c.address_of-at.result (beyond s.plan c.address_of-at.result out)))

pub returns-then-page-len : goal.returns-then-page-len
returns-then-page-len c =
    let s = c.self.inside in
    let view : Cells = cells_of s.plan s.live.items s.clocks.items s.pages.items s.frames.items s.links.items in
    let out : all_pages s.plan ≤ page_of s.plan (sub_of s.plan c.address_of-at.result) = (let here = c.spot_of-page.ensures.page in let all = c.self.invariant.pages_are in omega (arith, c.len-2.ensures, c.if-page-len.true)) in
    c.none-then-page-len.ensures ∙ subst (λ (m : Cells). [] ≡ sealed_places (wanted_page m c.args.wanted.now) (wanted_part m c.args.wanted.now)) c.self.view_is
    (subst (λ (at : Addr). [] ≡ sealed_places (page_of s.plan (sub_of s.plan at)) (page_for view at)) c.address_of-at.ensures
    (unsealed_beyond s.plan s.live.items s.clocks.items s.pages.items s.frames.items s.links.items c.self.invariant c.address_of-at.result out))
