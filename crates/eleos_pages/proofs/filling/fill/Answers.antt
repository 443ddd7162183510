use Rattle.std.proofs.Common.{◌≡◌, ℕ, ◌<◌, List, None, IfNone, IfSome, is_some, if◌then◌else◌, sym, ◌∙◌, ap, subst, arith}
use Rattle.eleos_base.specs.declared.plan.Plan.{Plan}
use Rattle.eleos_base.specs.declared.memory.Reply.TheVariants.{Done as IsDone}
use Rattle.eleos_base.specs.Plans.{IsGood}
use Rattle.eleos_base.specs.Places.{all_frames, home_of}
use Rattle.eleos_base.specs.Ties.{Has}
use Rattle.eleos_core.specs.Cells.{part_of_frame, part_of_page}
use Rattle.eleos_core.specs.Fills.{IsFree, fill_stamp, sealed_places}
use Rattle.eleos_core.specs.Legal.{IsActor, judged, passed}
use Rattle.eleos_core.specs.Parts.{Stamp, frame_cell, owner_in, part_after, passes_in, subs_in, the_frame, the_page}
use Rattle.eleos_core.specs.Seals.{Seals, seals_by}
use Rattle.eleos_core.specs.Texts.{IsSpoiledAt}
use Rattle.eleos_core.proofs.PlaceNumbers.{most_pages}
use Rattle.eleos_machine.specs.Machines.{Site, plan_at}
use Rattle.eleos_machine.proofs.Entries.{may_fill}
use Rattle.eleos_machine.specs.Passes.{PassState, gave, part_seen, plan_of, seals_of}
use Rattle.eleos_machine.specs.Stamping.{HasStamped, MayStamp}
use Rattle.eleos_plot.specs.declared.cell.Cell.TheVariants.{Frame, Page}
use Rattle.eleos_plot.specs.Cells.{part_of_cell}
use Rattle.eleos_host.specs.Taps.{failed_block}
use Rattle.eleos_pages.specs.Crossed.{blocks_below}
use Rattle.eleos_base.specs.Lists.{last_of}
use Rattle.eleos_pages.specs.Filled.{HasFilled}
use Rattle.eleos_pages.proofs.FilledPages.{absent_page_is, filled, frame_right, free_frame_is, passed_seen, spoiled, whole_page}
use Rattle.eleos_pages.proofs.Ending.{turn_stays}
use Rattle.eleos_pages.proofs.filling.fill.Goals as goal

pub frame_cell-cell-requires : goal.frame_cell-cell-requires
frame_cell-cell-requires g c = subst (λ (z : Site). c.args.frame.frame < all_frames (plan_at z)) c.requires.own c.requires.frame.held.number

pub fill_page-came-requires-clause-whole : goal.fill_page-came-requires-clause-whole
fill_page-came-requires-clause-whole g c = whole_page c.args.pass.now c.args.page c.args.frame c.in-Page.filled c.in-Frame.lent c.requires.page c.requires.frame c.in-Page.is c.in-Frame.is

pub fill_page-came-requires-clause-absent : goal.fill_page-came-requires-clause-absent
fill_page-came-requires-clause-absent g c = absent_page_is c.args.pass.now c.args.page c.args.frame c.in-Page.filled c.in-Frame.lent c.requires.page c.requires.frame c.in-Page.is c.in-Frame.is

pub fill_page-came-requires-clause-free : goal.fill_page-came-requires-clause-free
fill_page-came-requires-clause-free g c = free_frame_is c.args.pass.now c.args.page c.args.frame c.in-Page.filled c.in-Frame.lent c.requires.page c.requires.frame c.in-Page.is c.in-Frame.is

pub fill_page-came-requires-clause-number : goal.fill_page-came-requires-clause-number
fill_page-came-requires-clause-number g c =
    let few = most_pages (plan_of c.args.pass.now) (subst (λ (z : Site). IsGood (plan_at z)) (sym c.requires.own) c.plan.ensures.made.made.good) in
    let inside = c.requires.page.page.number in
    omega (arith, few, inside)

pub returns-in-Some : goal.returns-in-Some
returns-in-Some g c =
    let s : PassState = c.args.pass.now in
    let seals : seals_by (g.S.Sealer.key c.sealer.result.now) ≡ seals_of s = ap seals_by (c.sealer.ensures ∙ sym (ap (λ (z : Site). z.base.grounds.key) c.requires.own)) in
    let came : List (List ℕ) = blocks_below c.fill_page-came.result.blocks c.fill_page-came.new.tap in
    spoiled s c.args.page c.args.frame c.in-Page.filled c.in-Frame.lent c.requires.page c.requires.frame c.in-Page.is c.in-Frame.is c.fill_page-came.new.page c.fill_page-came.new.frame
    (subst (λ o. IfSome o (λ (_ : ℕ). c.fill_page-came.new.page ≡ c.in-Page.filled)) c.in-Some.is c.fill_page-came.ensures.page_kept)
    (subst (λ o. IfSome o (λ (_ : ℕ). part_of_frame c.fill_page-came.new.frame ≡ part_of_frame c.in-Frame.lent)) c.in-Some.is c.fill_page-came.ensures.frame_kept)
    (subst (λ o. IfSome o (λ (_ : ℕ). IsFree c.fill_page-came.new.frame.used)) c.in-Some.is c.fill_page-came.ensures.zero)
    g.P.HostPort g.P.HostStore c.args.tap.now c.begin.new.tap c.fill_page-came.new.tap c.fill_page-came.result.blocks c.in-Some.sub c.fill_page-came.ensures.few c.begin.ensures.begun c.fill_page-came.ensures.crossed
    (subst (λ (x : Seals). IsSpoiledAt (plan_of s) x c.args.page.page (part_of_page c.in-Page.filled) came c.in-Some.sub) seals
    (subst (λ o. IfSome o (λ (place : ℕ). (k : Plan) → IsSpoiledAt k (seals_by (g.S.Sealer.key c.sealer.result.now)) c.args.page.page (part_of_page c.in-Page.filled) came place)) c.in-Some.is c.fill_page-came.ensures.spoiled (plan_of s)))
    c.fill_page-came.ensures.slots
    (subst (λ o. failed_block c.fill_page-came.new.tap ≡ (if is_some o then last_of came else None)) c.in-Some.is c.fill_page-came.ensures.failed)

pub stamp-requires-clause-may : goal.stamp-requires-clause-may
stamp-requires-clause-may g c =
    let s : PassState = c.args.pass.now in
    let seals : seals_by (g.S.Sealer.key c.sealer.result.now) ≡ seals_of s = ap seals_by (c.sealer.ensures ∙ sym (ap (λ (z : Site). z.base.grounds.key) c.requires.own)) in
    subst MayStamp (sym c.draft_fill.ensures)
    (may_fill s c.args.page c.args.frame (blocks_below c.fill_page-came.result.blocks c.fill_page-came.new.tap) IsDone c.requires.page c.requires.frame
    (subst (λ (z : Site). owner_in (part_seen s (frame_cell (plan_at z) c.args.frame.frame)) ≡ home_of (plan_at z) c.args.page.page) (sym c.requires.own) c.requires.home)
    (passed_seen s c.args.page c.args.frame c.in-Page.filled c.in-Frame.lent c.requires.page c.requires.frame c.in-Page.is c.in-Frame.is c.fill_page-came.new.tap c.fill_page-came.result.blocks
    (subst (λ (x : Seals). judged (passes_in (plan_of s) x (subs_in (part_of_page c.in-Page.filled))) (sealed_places c.args.page.page (part_of_page c.in-Page.filled)) (blocks_below c.fill_page-came.result.blocks c.fill_page-came.new.tap) ≡ passed) seals
    (subst (λ o. IfNone o ((k : Plan) → judged (passes_in k (seals_by (g.S.Sealer.key c.sealer.result.now)) (subs_in (part_of_page c.in-Page.filled))) (sealed_places c.args.page.page (part_of_page c.in-Page.filled))
    (blocks_below c.fill_page-came.result.blocks c.fill_page-came.new.tap) ≡ passed)) c.in-None.is c.fill_page-came.ensures.judged (plan_of s))))
    (subst (λ (z : Site). IsActor (plan_at z) s.hand.number) (sym c.requires.own) c.requires.actor) c.requires.left)

pub give-requires-clause-held : goal.give-requires-clause-held
give-requires-clause-held g c =
    let s : PassState = c.args.pass.now in
    let cell_is : c.frame_cell-cell.result ≡ frame_cell (plan_of s) c.args.frame.frame = c.frame_cell-cell.ensures ∙ sym (ap (λ (z : Site). frame_cell (plan_at z) c.args.frame.frame) c.requires.own) in
    let came : List (List ℕ) = blocks_below c.fill_page-came.result.blocks c.fill_page-came.new.tap in
    let d : Stamp = fill_stamp s.hand.number c.args.page.page c.args.frame.frame came IsDone in
    let stamped : HasStamped (record s { draft = d }) c.stamp.result c.stamp.new.pass = subst (λ (y : PassState). HasStamped y c.stamp.result c.stamp.new.pass) c.draft_fill.ensures c.stamp.ensures.stamped in
    subst (λ (n : ℕ). Has n c.stamp.new.pass.hand.turns) (sym cell_is) (turn_stays (record s { draft = d }) c.stamp.new.pass c.stamp.result (frame_cell (plan_of s) c.args.frame.frame) stamped c.requires.frame.held.turn)

pub give-requires-clause-right : goal.give-requires-clause-right
give-requires-clause-right g c =
    let s : PassState = c.args.pass.now in
    let cell_is : c.frame_cell-cell.result ≡ frame_cell (plan_of s) c.args.frame.frame = c.frame_cell-cell.ensures ∙ sym (ap (λ (z : Site). frame_cell (plan_at z) c.args.frame.frame) c.requires.own) in
    let seals : seals_by (g.S.Sealer.key c.sealer.result.now) ≡ seals_of s = ap seals_by (c.sealer.ensures ∙ sym (ap (λ (z : Site). z.base.grounds.key) c.requires.own)) in
    let came : List (List ℕ) = blocks_below c.fill_page-came.result.blocks c.fill_page-came.new.tap in
    let d : Stamp = fill_stamp s.hand.number c.args.page.page c.args.frame.frame came IsDone in
    let stamped : HasStamped (record s { draft = d }) c.stamp.result c.stamp.new.pass = subst (λ (y : PassState). HasStamped y c.stamp.result c.stamp.new.pass) c.draft_fill.ensures c.stamp.ensures.stamped in
    let page_made : part_of_page c.fill_page-came.new.page ≡ part_after (plan_of s) (seals_of s) d (the_page c.args.page.page) (part_of_page c.in-Page.filled)
    = subst (λ (x : Seals). part_of_page c.fill_page-came.new.page ≡ part_after (plan_of s) x d (the_page c.args.page.page) (part_of_page c.in-Page.filled)) seals
    (subst (λ o. IfNone o ((k : Plan) (who : ℕ) → part_of_page c.fill_page-came.new.page
    ≡ part_after k (seals_by (g.S.Sealer.key c.sealer.result.now)) (fill_stamp who c.args.page.page c.args.frame.frame came IsDone) (the_page c.args.page.page) (part_of_page c.in-Page.filled)))
    c.in-None.is c.fill_page-came.ensures.page (plan_of s) s.hand.number) in
    let frame_made : part_of_frame c.fill_page-came.new.frame ≡ part_after (plan_of s) (seals_of s) d (the_frame c.args.frame.frame) (part_of_frame c.in-Frame.lent)
    = subst (λ (x : Seals). part_of_frame c.fill_page-came.new.frame ≡ part_after (plan_of s) x d (the_frame c.args.frame.frame) (part_of_frame c.in-Frame.lent)) seals
    (subst (λ o. IfNone o ((k : Plan) (who : ℕ) → part_of_frame c.fill_page-came.new.frame
    ≡ part_after k (seals_by (g.S.Sealer.key c.sealer.result.now)) (fill_stamp who c.args.page.page c.args.frame.frame came IsDone) (the_frame c.args.frame.frame) (part_of_frame c.in-Frame.lent)))
    c.in-None.is c.fill_page-came.ensures.frame (plan_of s) s.hand.number) in
    subst (λ (n : ℕ). part_of_cell (Frame c.fill_page-came.new.frame) ≡ part_seen c.stamp.new.pass n) (sym cell_is)
    (frame_right s c.args.page c.args.frame c.in-Page.filled c.in-Frame.lent c.requires.page c.requires.frame c.in-Page.is c.in-Frame.is
    c.fill_page-came.new.tap c.fill_page-came.result.blocks c.stamp.result c.stamp.new.pass stamped c.stamp.ensures.lawful c.fill_page-came.new.page c.fill_page-came.new.frame page_made frame_made c.fill_page-came.ensures.present c.fill_page-came.ensures.used)

pub returns-in-None : goal.returns-in-None
returns-in-None g c =
    let s : PassState = c.args.pass.now in
    let cell_is : c.frame_cell-cell.result ≡ frame_cell (plan_of s) c.args.frame.frame = c.frame_cell-cell.ensures ∙ sym (ap (λ (z : Site). frame_cell (plan_at z) c.args.frame.frame) c.requires.own) in
    let seals : seals_by (g.S.Sealer.key c.sealer.result.now) ≡ seals_of s = ap seals_by (c.sealer.ensures ∙ sym (ap (λ (z : Site). z.base.grounds.key) c.requires.own)) in
    let came : List (List ℕ) = blocks_below c.fill_page-came.result.blocks c.fill_page-came.new.tap in
    let d : Stamp = fill_stamp s.hand.number c.args.page.page c.args.frame.frame came IsDone in
    let stamped : HasStamped (record s { draft = d }) c.stamp.result c.stamp.new.pass = subst (λ (y : PassState). HasStamped y c.stamp.result c.stamp.new.pass) c.draft_fill.ensures c.stamp.ensures.stamped in
    let page_made : part_of_page c.fill_page-came.new.page ≡ part_after (plan_of s) (seals_of s) d (the_page c.args.page.page) (part_of_page c.in-Page.filled)
    = subst (λ (x : Seals). part_of_page c.fill_page-came.new.page ≡ part_after (plan_of s) x d (the_page c.args.page.page) (part_of_page c.in-Page.filled)) seals
    (subst (λ o. IfNone o ((k : Plan) (who : ℕ) → part_of_page c.fill_page-came.new.page
    ≡ part_after k (seals_by (g.S.Sealer.key c.sealer.result.now)) (fill_stamp who c.args.page.page c.args.frame.frame came IsDone) (the_page c.args.page.page) (part_of_page c.in-Page.filled)))
    c.in-None.is c.fill_page-came.ensures.page (plan_of s) s.hand.number) in
    let frame_made : part_of_frame c.fill_page-came.new.frame ≡ part_after (plan_of s) (seals_of s) d (the_frame c.args.frame.frame) (part_of_frame c.in-Frame.lent)
    = subst (λ (x : Seals). part_of_frame c.fill_page-came.new.frame ≡ part_after (plan_of s) x d (the_frame c.args.frame.frame) (part_of_frame c.in-Frame.lent)) seals
    (subst (λ o. IfNone o ((k : Plan) (who : ℕ) → part_of_frame c.fill_page-came.new.frame
    ≡ part_after k (seals_by (g.S.Sealer.key c.sealer.result.now)) (fill_stamp who c.args.page.page c.args.frame.frame came IsDone) (the_frame c.args.frame.frame) (part_of_frame c.in-Frame.lent)))
    c.in-None.is c.fill_page-came.ensures.frame (plan_of s) s.hand.number) in
    subst (λ (y : PassState). HasFilled g.P.HostPort g.P.HostStore s c.args.tap.now c.args.page c.args.frame (record { page = c.args.page.page; cell = Page c.fill_page-came.new.page }) y c.fill_page-came.new.tap)
    (sym (c.give.ensures ∙ ap (gave c.stamp.new.pass) cell_is))
    (filled s c.args.page c.args.frame c.in-Page.filled c.in-Frame.lent c.requires.page c.requires.frame c.in-Page.is c.in-Frame.is
    c.fill_page-came.new.tap c.fill_page-came.result.blocks c.stamp.result c.stamp.new.pass stamped c.stamp.ensures.lawful c.fill_page-came.new.page c.fill_page-came.new.frame page_made frame_made c.fill_page-came.ensures.present c.fill_page-came.ensures.used
    g.P.HostPort g.P.HostStore c.args.tap.now c.begin.new.tap c.begin.ensures.begun c.fill_page-came.ensures.crossed c.fill_page-came.ensures.slots
    (subst (λ o. failed_block c.fill_page-came.new.tap ≡ (if is_some o then last_of came else None)) c.in-None.is c.fill_page-came.ensures.failed))
