use Rattle.std.proofs.Common.{◌≡◌, ◌≤◌, ◌∙◌, false, is_some, length, subst, arith}
use Rattle.std.proofs.lemmas.Bool.{le-ltb}
use Rattle.eleos_core.specs.Accesses.{page_for}
use Rattle.eleos_core.specs.Cells.{Cells}
use Rattle.eleos_core.specs.Parts.{frame_in}
use Rattle.eleos_base.specs.Places.{all_pages, page_of, sub_of}
use Rattle.eleos_core.proofs.WaitingPages.{absent_beyond, beyond}
use Rattle.eleos_core.proofs.machine.Core.is_present_at.Goals as goal

pub returns-then-at-len : goal.returns-then-at-len
returns-then-at-len c =
    let s = c.self.inside in
    let out : length s.plan.enclaves ≤ c.args.at.enclave = omega (arith, c.len.ensures, c.if-at-len.true) in
    subst (λ (m : Cells). false ≡ is_some (frame_in (page_for m c.args.at))) c.self.view_is
    (absent_beyond s.plan s.live.items s.clocks.items s.pages.items s.frames.items s.links.items c.self.invariant c.args.at (beyond s.plan c.args.at out))

pub returns-else-page-len : goal.returns-else-page-len
returns-else-page-len c =
    let s = c.self.inside in
    let out : all_pages s.plan ≤ page_of s.plan (sub_of s.plan c.args.at) = (let here = c.spot_of-page.ensures.page in let all = c.self.invariant.pages_are in omega (arith, c.len-2.ensures, c.if-page-len.false)) in
    le-ltb c.spot_of-page.result.page c.len-2.result c.if-page-len.false ∙ subst (λ (m : Cells). false ≡ is_some (frame_in (page_for m c.args.at))) c.self.view_is
    (absent_beyond s.plan s.live.items s.clocks.items s.pages.items s.frames.items s.links.items c.self.invariant c.args.at out)
