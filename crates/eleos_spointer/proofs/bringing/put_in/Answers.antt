use Rattle.std.proofs.Common.{◌≡◌, ℕ, ◌<◌, sym, ◌∙◌, ap, subst}
use Rattle.eleos_base.specs.declared.memory.Reply.TheVariants.{Tampered as IsTampered}
use Rattle.eleos_base.specs.Places.{all_frames}
use Rattle.eleos_base.specs.Ties.{Has}
use Rattle.eleos_core.specs.Legal.{IsActor}
use Rattle.eleos_core.specs.Parts.{frame_cell}
use Rattle.eleos_core.specs.Quiet.{spoiled_stamp}
use Rattle.eleos_machine.specs.Holding.{HasPage}
use Rattle.eleos_machine.specs.Machines.{Site, plan_at}
use Rattle.eleos_machine.specs.Passes.{PassState, gave, part_seen, plan_of}
use Rattle.eleos_machine.specs.Stamping.{HasStamped}
use Rattle.eleos_plot.specs.Cells.{part_of_cell}
use Rattle.eleos_plot.specs.Refs.{wanted_of}
use Rattle.eleos_pages.specs.Crossed.{blocks_below}
use Rattle.eleos_spointer.specs.Brought.{cell_of_held}
use Rattle.eleos_spointer.proofs.Putting.{at_home, frame_right, frame_turn, has_absent, is_actor, may_stamp, page_left, put_in, spoils}
use Rattle.eleos_spointer.proofs.bringing.put_in.Goals as goal

pub fill-requires-clause-own : goal.fill-requires-clause-own
fill-requires-clause-own g c = c.requires.may.wants.own

pub fill-requires-clause-actor : goal.fill-requires-clause-actor
fill-requires-clause-actor g c = subst (λ (z : Site). IsActor (plan_at z) c.args.pass.now.hand.number) c.requires.may.wants.own (is_actor (plan_of c.args.pass.now) c.args.pass.now.hand.number c.requires.may.wants.caller)

pub fill-requires-clause-page : goal.fill-requires-clause-page
fill-requires-clause-page g c = has_absent c.args.m.now c.args.pass.now c.args.page c.args.frame (wanted_of c.args.wanted) c.requires.may

pub fill-requires-clause-home : goal.fill-requires-clause-home
fill-requires-clause-home g c = at_home c.args.m.now c.args.pass.now c.args.page c.args.frame (wanted_of c.args.wanted) c.requires.may

pub returns-in-Done : goal.returns-in-Done
returns-in-Done g c = put_in c.args.m.now c.args.pass.now c.args.page c.args.frame (wanted_of c.args.wanted) c.requires.may g.P.HostPort g.P.HostStore c.args.tap.now c.in-Done.page c.fill.new.pass c.fill.new.tap c.in-Done.ensures

pub stamp-requires-clause-own : goal.stamp-requires-clause-own
stamp-requires-clause-own g c = ap (λ (y : PassState). y.hand.home) c.draft_spoiled.ensures ∙ (ap (λ (y : PassState). y.hand.home) c.in-Tampered.ensures.same ∙ c.requires.may.wants.own)

pub stamp-requires-clause-may : goal.stamp-requires-clause-may
stamp-requires-clause-may g c = may_stamp c.args.m.now c.args.pass.now c.args.page c.args.frame (wanted_of c.args.wanted) c.requires.may g.P.HostPort g.P.HostStore c.args.tap.now c.fill.new.tap
    c.in-Tampered.page c.in-Tampered.frame c.in-Tampered.sub c.in-Tampered.blocks c.fill.new.pass c.in-Tampered.ensures c.draft_spoiled.new.pass c.draft_spoiled.ensures

pub frame_cell-requires : goal.frame_cell-requires
frame_cell-requires g c = subst (λ (z : Site). c.in-Tampered.frame.frame < all_frames (plan_at z)) c.requires.may.wants.own c.in-Tampered.ensures.free.held.number

pub give-requires-clause-own : goal.give-requires-clause-own
give-requires-clause-own g c = c.stamp.ensures.stamped.goes.home ∙ (ap (λ (y : PassState). y.hand.home) c.draft_spoiled.ensures ∙ (ap (λ (y : PassState). y.hand.home) c.in-Tampered.ensures.same ∙ c.requires.may.wants.own))

pub give-requires-clause-held : goal.give-requires-clause-held
give-requires-clause-held g c =
    let s : PassState = c.args.pass.now in
    let is = c.draft_spoiled.ensures ∙ ap (λ (y : PassState). record y { draft = spoiled_stamp y.hand.number (wanted_of c.args.wanted) (blocks_below c.in-Tampered.blocks c.fill.new.tap) (IsTampered c.in-Tampered.sub) }) c.in-Tampered.ensures.same in
    let at : c.frame_cell.result ≡ frame_cell (plan_of s) c.args.frame.frame = c.frame_cell.ensures ∙ (ap (λ (z : Site). frame_cell (plan_at z) c.in-Tampered.frame.frame) (sym c.requires.may.wants.own) ∙ ap (frame_cell (plan_of s)) c.in-Tampered.ensures.frame_is) in
    subst (λ (n : ℕ). Has n c.stamp.new.pass.hand.turns) (sym at)
    (frame_turn c.args.m.now s c.args.page c.args.frame (wanted_of c.args.wanted) c.requires.may g.P.HostPort g.P.HostStore c.args.tap.now c.fill.new.tap c.in-Tampered.page c.in-Tampered.frame c.in-Tampered.sub c.in-Tampered.blocks c.fill.new.pass c.in-Tampered.ensures
    c.stamp.result c.stamp.new.pass (subst (λ (y : PassState). HasStamped y c.stamp.result c.stamp.new.pass) is c.stamp.ensures.stamped) c.stamp.ensures.lawful)

pub give-requires-clause-right : goal.give-requires-clause-right
give-requires-clause-right g c =
    let s : PassState = c.args.pass.now in
    let is = c.draft_spoiled.ensures ∙ ap (λ (y : PassState). record y { draft = spoiled_stamp y.hand.number (wanted_of c.args.wanted) (blocks_below c.in-Tampered.blocks c.fill.new.tap) (IsTampered c.in-Tampered.sub) }) c.in-Tampered.ensures.same in
    let at : c.frame_cell.result ≡ frame_cell (plan_of s) c.args.frame.frame = c.frame_cell.ensures ∙ (ap (λ (z : Site). frame_cell (plan_at z) c.in-Tampered.frame.frame) (sym c.requires.may.wants.own) ∙ ap (frame_cell (plan_of s)) c.in-Tampered.ensures.frame_is) in
    subst (λ (n : ℕ). part_of_cell c.in-Tampered.frame.cell ≡ part_seen c.stamp.new.pass n) (sym at)
    (frame_right c.args.m.now s c.args.page c.args.frame (wanted_of c.args.wanted) c.requires.may g.P.HostPort g.P.HostStore c.args.tap.now c.fill.new.tap c.in-Tampered.page c.in-Tampered.frame c.in-Tampered.sub c.in-Tampered.blocks c.fill.new.pass c.in-Tampered.ensures
    c.stamp.result c.stamp.new.pass (subst (λ (y : PassState). HasStamped y c.stamp.result c.stamp.new.pass) is c.stamp.ensures.stamped) c.stamp.ensures.lawful)

pub give_page-requires-clause-own : goal.give_page-requires-clause-own
give_page-requires-clause-own g c = ap (λ (y : PassState). y.hand.home) c.give.ensures ∙ (c.stamp.ensures.stamped.goes.home ∙ (ap (λ (y : PassState). y.hand.home) c.draft_spoiled.ensures ∙ (ap (λ (y : PassState). y.hand.home) c.in-Tampered.ensures.same ∙ c.requires.may.wants.own)))

pub give_page-requires-clause-has : goal.give_page-requires-clause-has
give_page-requires-clause-has g c =
    let s : PassState = c.args.pass.now in
    let is = c.draft_spoiled.ensures ∙ ap (λ (y : PassState). record y { draft = spoiled_stamp y.hand.number (wanted_of c.args.wanted) (blocks_below c.in-Tampered.blocks c.fill.new.tap) (IsTampered c.in-Tampered.sub) }) c.in-Tampered.ensures.same in
    let at : c.frame_cell.result ≡ frame_cell (plan_of s) c.args.frame.frame = c.frame_cell.ensures ∙ (ap (λ (z : Site). frame_cell (plan_at z) c.in-Tampered.frame.frame) (sym c.requires.may.wants.own) ∙ ap (frame_cell (plan_of s)) c.in-Tampered.ensures.frame_is) in
    subst (λ (y : PassState). HasPage y c.in-Tampered.page.page c.in-Tampered.page.cell) (sym (c.give.ensures ∙ ap (gave c.stamp.new.pass) at))
    (page_left c.args.m.now s c.args.page c.args.frame (wanted_of c.args.wanted) c.requires.may g.P.HostPort g.P.HostStore c.args.tap.now c.fill.new.tap c.in-Tampered.page c.in-Tampered.frame c.in-Tampered.sub c.in-Tampered.blocks c.fill.new.pass c.in-Tampered.ensures
    c.stamp.result c.stamp.new.pass (subst (λ (y : PassState). HasStamped y c.stamp.result c.stamp.new.pass) is c.stamp.ensures.stamped) c.stamp.ensures.lawful)

pub returns-in-Tampered : goal.returns-in-Tampered
returns-in-Tampered g c =
    let s : PassState = c.args.pass.now in
    let is = c.draft_spoiled.ensures ∙ ap (λ (y : PassState). record y { draft = spoiled_stamp y.hand.number (wanted_of c.args.wanted) (blocks_below c.in-Tampered.blocks c.fill.new.tap) (IsTampered c.in-Tampered.sub) }) c.in-Tampered.ensures.same in
    let at : c.frame_cell.result ≡ frame_cell (plan_of s) c.args.frame.frame = c.frame_cell.ensures ∙ (ap (λ (z : Site). frame_cell (plan_at z) c.in-Tampered.frame.frame) (sym c.requires.may.wants.own) ∙ ap (frame_cell (plan_of s)) c.in-Tampered.ensures.frame_is) in
    spoils c.args.m.now s c.args.page c.args.frame (wanted_of c.args.wanted) c.requires.may g.P.HostPort g.P.HostStore c.args.tap.now c.fill.new.tap c.in-Tampered.page c.in-Tampered.frame c.in-Tampered.sub c.in-Tampered.blocks c.fill.new.pass c.in-Tampered.ensures
    c.stamp.result c.stamp.new.pass (subst (λ (y : PassState). HasStamped y c.stamp.result c.stamp.new.pass) is c.stamp.ensures.stamped) c.stamp.ensures.lawful
    c.give_page.new.pass (c.give_page.ensures ∙ ap (λ (y : PassState). gave y (cell_of_held y c.in-Tampered.page)) (c.give.ensures ∙ ap (gave c.stamp.new.pass) at))
