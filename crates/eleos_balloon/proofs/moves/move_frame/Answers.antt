use Rattle.std.proofs.Common.{sym, subst, ap, ◌∙◌, arith}
use Rattle.eleos_core.specs.Parts.{frame_cell}
use Rattle.eleos_machine.specs.Machines.{Site, plan_at}
use Rattle.eleos_machine.specs.Passes.{PassState, part_seen}
use Rattle.eleos_machine.specs.Stamping.{HasStamped, MayStamp}
use Rattle.eleos_balloon.proofs.Clocks.{room}
use Rattle.eleos_balloon.proofs.Moving.{may_stamp, moved, right}
use Rattle.eleos_balloon.proofs.moves.move_frame.Goals as goal

pub stamp-requires-clause-may : goal.stamp-requires-clause-may
stamp-requires-clause-may g c = subst MayStamp (sym c.set.ensures) (may_stamp c.args.pass.now c.args.free c.args.from c.args.from_clock.now c.args.to c.args.to_clock.now c.requires.may)

pub join-requires : goal.join-requires
join-requires g c = record { room = room c.args.pass.now c.left.ensures.lawful c.args.to c.args.to_clock.now c.requires.may.to_has c.args.free.frame c.args.from c.requires.may.free_is.held.number c.requires.may.owned c.requires.may.one_is_pool }

pub give-requires-clause-right : goal.give-requires-clause-right
give-requires-clause-right g c =
    let at = c.frame_cell.ensures ∙ ap (λ (y : Site). frame_cell (plan_at y) c.args.free.frame) (sym c.requires.own) in
    right c.args.pass.now c.args.free c.args.from c.args.from_clock.now c.args.to c.args.to_clock.now c.requires.may c.stamp.result c.stamp.new.pass
    (subst (λ (y : PassState). HasStamped y c.stamp.result c.stamp.new.pass) c.set.ensures c.stamp.ensures.stamped) _ c.owned_by.ensures ∙ ap (part_seen c.stamp.new.pass) (sym at)

pub returns : goal.returns
returns g c =
    let at = c.frame_cell.ensures ∙ ap (λ (y : Site). frame_cell (plan_at y) c.args.free.frame) (sym c.requires.own) in
    moved c.args.pass.now c.args.free c.args.from c.args.from_clock.now c.args.to c.args.to_clock.now c.requires.may c.stamp.result c.stamp.new.pass
    (subst (λ (y : PassState). HasStamped y c.stamp.result c.stamp.new.pass) c.set.ensures c.stamp.ensures.stamped) c.frame_cell.result c.give.new.pass c.leave.new.clock c.join.new.clock
    (let one = c.requires.may.actor.from_one in omega (arith, one)) at c.give.ensures c.leave.ensures c.join.ensures
