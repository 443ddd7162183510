use Rattle.std.proofs.Common.{◌≡◌, ℕ, ◌*◌, ◌<◌, [], length, None, sym, ◌∙◌, ap, subst, arith}
use Rattle.eleos_base.specs.declared.plan.Plan.{Plan}
use Rattle.eleos_base.specs.Lists.{map_from}
use Rattle.eleos_base.specs.Plans.{IsGood}
use Rattle.eleos_base.specs.Places.{all_pages}
use Rattle.eleos_base.specs.Ties.{Has}
use Rattle.eleos_core.specs.Cells.{part_of_page}
use Rattle.eleos_core.specs.Evicts.{evict_stamp, sealed_blocks, sealed_sub}
use Rattle.eleos_core.specs.Legal.{IsActor}
use Rattle.eleos_core.specs.Parts.{page_cell, page_part, subs_in}
use Rattle.eleos_core.specs.Seals.{Seals, seals_by}
use Rattle.eleos_core.proofs.PlaceNumbers.{most_pages}
use Rattle.eleos_machine.specs.Machines.{Site, plan_at}
use Rattle.eleos_machine.proofs.Entries.{may_evict}
use Rattle.eleos_machine.specs.Passes.{PassState, gave, part_seen, plan_of, seals_of}
use Rattle.eleos_machine.specs.Stamping.{HasStamped, MayStamp}
use Rattle.eleos_plot.specs.declared.cell.Cell.TheVariants.{Frame, Page}
use Rattle.eleos_plot.specs.Cells.{part_of_cell}
use Rattle.eleos_pages.specs.Crossed.{Crosses}
use Rattle.eleos_pages.specs.Evicted.{HasEvicted}
use Rattle.eleos_pages.proofs.EvictedPages.{can_leave, evicted, page_right}
use Rattle.eleos_pages.proofs.Ending.{turn_stays}
use Rattle.eleos_pages.proofs.evicting.evict.Goals as goal

pub page_cell-cell-requires-clause-page : goal.page_cell-cell-requires-clause-page
page_cell-cell-requires-clause-page g c =
    subst (λ (k : Plan). c.args.sole.page < all_pages k) (sym (c.plan-plan.ensures.plan ∙ sym (ap plan_at c.requires.own))) c.requires.has.page.number

pub overflow_mul-first : goal.overflow_mul-first
overflow_mul-first g c =
    let few = most_pages (plan_of c.args.pass.now) (subst (λ (z : Site). IsGood (plan_at z)) (sym c.requires.own) c.plan-plan.ensures.made.made.good) in
    let inside = c.requires.has.page.number in
    omega (arith, few, inside)

pub evict_page-gone-requires-clause-page : goal.evict_page-gone-requires-clause-page
evict_page-gone-requires-clause-page g c =
    can_leave c.args.pass.now c.args.sole c.in-Page.page c.in-Frame.frame c.requires.has c.in-Page.is c.in-Frame.is
    (subst (λ (z : Site). IsGood (plan_at z)) (sym c.requires.own) c.plan-plan.ensures.made.made.good)

pub evict_page-gone-requires-clause-first : goal.evict_page-gone-requires-clause-first
evict_page-gone-requires-clause-first g c =
    let few = most_pages (plan_of c.args.pass.now) (subst (λ (z : Site). IsGood (plan_at z)) (sym c.requires.own) c.plan-plan.ensures.made.made.good) in
    let inside = c.requires.has.page.number in
    omega (arith, few, inside)

pub stamp-requires-clause-may : goal.stamp-requires-clause-may
stamp-requires-clause-may g c =
    subst MayStamp (sym c.set.ensures)
    (may_evict c.args.pass.now c.args.sole c.requires.has
    (subst (λ (z : Site). IsActor (plan_at z) c.args.pass.now.hand.number) (sym c.requires.own) c.requires.actor) c.requires.left)

pub give-requires-clause-held : goal.give-requires-clause-held
give-requires-clause-held g c =
    let s : PassState = c.args.pass.now in
    let cell_is : c.page_cell-cell.result ≡ page_cell (plan_of s) c.args.sole.page
    = c.page_cell-cell.ensures ∙ ap (λ (k : Plan). page_cell k c.args.sole.page) (c.plan-plan.ensures.plan ∙ sym (ap plan_at c.requires.own)) in
    subst (λ (n : ℕ). Has n c.stamp.new.pass.hand.turns) (sym cell_is)
    (turn_stays (record s { draft = evict_stamp s.hand.number c.args.sole.page c.args.sole.frame }) c.stamp.new.pass c.stamp.result (page_cell (plan_of s) c.args.sole.page)
    (subst (λ (y : PassState). HasStamped y c.stamp.result c.stamp.new.pass) c.set.ensures c.stamp.ensures.stamped) c.requires.has.page.turn)

pub give-requires-clause-right : goal.give-requires-clause-right
give-requires-clause-right g c =
    let s : PassState = c.args.pass.now in
    let cell_is : c.page_cell-cell.result ≡ page_cell (plan_of s) c.args.sole.page
    = c.page_cell-cell.ensures ∙ ap (λ (k : Plan). page_cell k c.args.sole.page) (c.plan-plan.ensures.plan ∙ sym (ap plan_at c.requires.own)) in
    let seals : seals_by (g.S.Sealer.key c.sealer.result.now) ≡ seals_of s = ap seals_by (c.sealer.ensures ∙ sym (ap (λ (z : Site). z.base.grounds.key) c.requires.own)) in
    subst (λ (n : ℕ). part_of_cell (Page c.evict_page-gone.new.page) ≡ part_seen c.stamp.new.pass n) (sym cell_is)
    (page_right s c.args.sole c.in-Page.page c.in-Frame.frame c.requires.has c.in-Page.is c.in-Frame.is c.stamp.result c.stamp.new.pass
    (subst (λ (y : PassState). HasStamped y c.stamp.result c.stamp.new.pass) c.set.ensures c.stamp.ensures.stamped) c.stamp.ensures.lawful c.evict_page-gone.new.page c.evict_page-gone.new.frame
    (subst (λ (x : Seals). part_of_page c.evict_page-gone.new.page ≡ page_part None (map_from (sealed_sub x) (c.args.sole.page * 4) (subs_in (part_of_page c.in-Page.page)))) seals c.evict_page-gone.ensures.page)
    c.evict_page-gone.ensures.frame c.evict_page-gone.ensures.zero)

pub returns : goal.returns
returns g c =
    let s : PassState = c.args.pass.now in
    let cell_is : c.page_cell-cell.result ≡ page_cell (plan_of s) c.args.sole.page
    = c.page_cell-cell.ensures ∙ ap (λ (k : Plan). page_cell k c.args.sole.page) (c.plan-plan.ensures.plan ∙ sym (ap plan_at c.requires.own)) in
    let seals : seals_by (g.S.Sealer.key c.sealer.result.now) ≡ seals_of s = ap seals_by (c.sealer.ensures ∙ sym (ap (λ (z : Site). z.base.grounds.key) c.requires.own)) in
    subst (λ (y : PassState). HasEvicted g.P.HostPort g.P.HostStore s c.args.tap.now c.args.sole (record { frame = c.args.sole.frame; cell = Frame c.evict_page-gone.new.frame }) c.evict_page-gone.result y c.evict_page-gone.new.tap) (sym (c.give.ensures ∙ ap (gave c.stamp.new.pass) cell_is))
    (evicted s c.args.sole c.in-Page.page c.in-Frame.frame c.requires.has c.in-Page.is c.in-Frame.is c.stamp.result c.stamp.new.pass
    (subst (λ (y : PassState). HasStamped y c.stamp.result c.stamp.new.pass) c.set.ensures c.stamp.ensures.stamped) c.stamp.ensures.lawful c.evict_page-gone.new.page c.evict_page-gone.new.frame
    (subst (λ (x : Seals). part_of_page c.evict_page-gone.new.page ≡ page_part None (map_from (sealed_sub x) (c.args.sole.page * 4) (subs_in (part_of_page c.in-Page.page)))) seals c.evict_page-gone.ensures.page)
    c.evict_page-gone.ensures.frame c.evict_page-gone.ensures.zero
    g.P.HostPort g.P.HostStore c.args.tap.now c.begin.new.tap c.evict_page-gone.new.tap c.evict_page-gone.result c.begin.ensures.begun
    (subst (λ (x : Seals). Crosses g.P.HostPort g.P.HostStore c.begin.new.tap c.evict_page-gone.new.tap [] (sealed_blocks x (c.args.sole.page * 4) (subs_in (part_of_page c.in-Page.page)))) seals c.evict_page-gone.ensures.crossed)
    (subst (λ (x : Seals). c.evict_page-gone.result ≡ length (sealed_blocks x (c.args.sole.page * 4) (subs_in (part_of_page c.in-Page.page)))) seals c.evict_page-gone.ensures.count)
    c.evict_page-gone.ensures.passed)
