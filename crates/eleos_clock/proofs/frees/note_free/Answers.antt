use Rattle.std.proofs.Common.{◌≡◌, ◌<◌, length, sym, subst}
use Rattle.eleos_base.specs.Places.{all_frames}
use Rattle.eleos_core.specs.Sweeps.{frames_in}
use Rattle.eleos_turn.specs.Numbers.{times}
use Rattle.eleos_machine.specs.Machines.{Site, plan_at}
use Rattle.eleos_clock.specs.Frees.{TriedToNote}
use Rattle.eleos_clock.proofs.Noting.{begins, goes_on, in_machine, room, unnoted}
use Rattle.eleos_clock.proofs.Rounding.{may_on}
use Rattle.eleos_clock.proofs.frees.note_free.Goals as goal

pub loop-place-init : goal.loop-place-init
loop-place-init g c = begins c.args.m.now c.args.pass.now c.args.clock.now c.requires.may c.left.ensures.lawful c.requires.empty

pub note_one-requires-clause-may : goal.note_one-requires-clause-may
note_one-requires-clause-may g c = may_on c.args.m.now c.args.pass.now c.loop-place.pass c.args.clock.now c.requires.may c.loop-place.invariant.notes.searches c.loop-place.invariant.notes.turns

pub note_one-requires-clause-frame : goal.note_one-requires-clause-frame
note_one-requires-clause-frame g c =
    let inside = subst (λ n. c.loop-place.place < n) c.count_of-place-end.ensures c.loop-place-test.true in
    subst (λ (y : Site). c.frame_in.result < all_frames (plan_at y)) c.requires.may.look.own (subst (λ f. f < all_frames (plan_at c.args.pass.now.hand.home)) (sym c.frame_in.ensures)
    (in_machine c.args.m.now c.args.pass.now c.args.clock.now c.requires.may c.left.ensures.lawful c.loop-place.place inside c.loop-place.pass c.loop-place.invariant))

pub note_one-requires-clause-room : goal.note_one-requires-clause-room
note_one-requires-clause-room g c =
    let inside = subst (λ n. c.loop-place.place < n) c.count_of-place-end.ensures c.loop-place-test.true in
    subst (λ (y : Site). length c.loop-place.pass.sweep.words < all_frames (plan_at y)) c.requires.may.look.own
    (room c.args.m.now c.args.pass.now c.args.clock.now c.requires.may c.left.ensures.lawful c.loop-place.place inside c.loop-place.pass c.loop-place.invariant)

pub note_one-requires-clause-unnoted : goal.note_one-requires-clause-unnoted
note_one-requires-clause-unnoted g c =
    let inside = subst (λ n. c.loop-place.place < n) c.count_of-place-end.ensures c.loop-place-test.true in
    subst (λ f. times f (frames_in c.loop-place.pass.sweep.words) ≡ 0) (sym c.frame_in.ensures)
    (unnoted c.args.m.now c.args.pass.now c.args.clock.now c.requires.may c.left.ensures.lawful c.loop-place.place inside c.loop-place.pass c.loop-place.invariant)

pub loop-place-preserved : goal.loop-place-preserved
loop-place-preserved g c =
    let inside = subst (λ n. c.loop-place.place < n) c.count_of-place-end.ensures c.loop-place-test.true in
    goes_on c.args.m.now c.args.pass.now c.args.clock.now c.requires.may c.left.ensures.lawful c.loop-place.place inside c.loop-place.pass c.loop-place.invariant c.note_one.new.pass
    (subst (λ f. TriedToNote c.loop-place.pass f c.note_one.new.pass) c.frame_in.ensures c.note_one.ensures)

pub returns : goal.returns
returns g c = c.loop-place.invariant.notes
