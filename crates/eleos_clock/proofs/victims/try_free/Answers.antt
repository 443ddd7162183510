use Rattle.std.proofs.Common.{◌<◌, sym, ◌∙◌, ap, subst}
use Rattle.eleos_core.specs.Parts.{frame_cell}
use Rattle.eleos_base.specs.Places.{all_frames}
use Rattle.eleos_machine.specs.Machines.{Site, plan_at}
use Rattle.eleos_clock.proofs.Searching.{not_had, tried_busy, tried_free, tried_lent}
use Rattle.eleos_clock.proofs.victims.try_free.Goals as goal

pub try_take-requires-clause-free : goal.try_take-requires-clause-free
try_take-requires-clause-free g c =
    let s = c.args.pass.now in let home = c.requires.may.look.own in
    let lt = subst (λ (y : Site). c.args.frame < all_frames (plan_at y)) (sym home) c.requires.frame in
    let e = c.frame_cell-cell.ensures ∙ ap (λ (y : Site). frame_cell (plan_at y) c.args.frame) (sym home) in
    not_had c.args.m.now s c.args.clock.now c.args.frame c.requires.may c.left.ensures.lawful lt c.frame_cell-cell.result e

pub returns-in_default : goal.returns-in_default
returns-in_default g c =
    let s = c.args.pass.now in let home = c.requires.may.look.own in
    let lt = subst (λ (y : Site). c.args.frame < all_frames (plan_at y)) (sym home) c.requires.frame in
    let e = c.frame_cell-cell.ensures ∙ ap (λ (y : Site). frame_cell (plan_at y) c.args.frame) (sym home) in
    tried_busy c.args.m.now s c.args.clock.now c.args.frame c.requires.may c.left.ensures.lawful lt c.frame_cell-cell.result e c.in_default.field-0.word c.try_take.new.pass c.in_default.ensures.refused

pub returns-then-is_free : goal.returns-then-is_free
returns-then-is_free g c =
    let s = c.args.pass.now in let home = c.requires.may.look.own in
    let lt = subst (λ (y : Site). c.args.frame < all_frames (plan_at y)) (sym home) c.requires.frame in
    let e = c.frame_cell-cell.ensures ∙ ap (λ (y : Site). frame_cell (plan_at y) c.args.frame) (sym home) in
    tried_free c.args.m.now s c.args.clock.now c.args.frame c.requires.may c.left.ensures.lawful lt c.frame_cell-cell.result e c.in-Ok.taken.word c.in-Ok.taken.value c.try_take.new.pass c.in-Ok.ensures.took c.try_take.ensures.lawful
    (c.is_free.ensures.0 c.if-is_free.true)

pub returns : goal.returns
returns g c =
    let s = c.args.pass.now in let home = c.requires.may.look.own in
    let lt = subst (λ (y : Site). c.args.frame < all_frames (plan_at y)) (sym home) c.requires.frame in
    let e = c.frame_cell-cell.ensures ∙ ap (λ (y : Site). frame_cell (plan_at y) c.args.frame) (sym home) in
    tried_lent c.args.m.now s c.args.clock.now c.args.frame c.requires.may c.left.ensures.lawful lt c.frame_cell-cell.result e c.in-Ok.taken.word c.in-Ok.taken.value c.try_take.new.pass c.in-Ok.ensures.took c.try_take.ensures.lawful c.give.new.pass c.give.ensures
