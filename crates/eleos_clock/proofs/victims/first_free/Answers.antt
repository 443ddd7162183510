use Rattle.std.proofs.Common.{◌<◌, true, slice_index, refl, sym, ◌∙◌, ap, subst}
use Rattle.eleos_base.specs.Places.{all_frames}
use Rattle.eleos_machine.specs.Machines.{Site, plan_at}
use Rattle.eleos_machine.specs.Notes.{Sweep, free_notes}
use Rattle.eleos_clock.specs.Answered.{KeepsFree}
use Rattle.eleos_clock.specs.Lists.{AreNotes}
use Rattle.eleos_clock.proofs.Noted.{keeps_same}
use Rattle.eleos_clock.proofs.Once.{same_default}
use Rattle.eleos_clock.proofs.Rounding.{may_on}
use Rattle.eleos_clock.proofs.Searching.{free_on, idles_on, idles_same}
use Rattle.eleos_clock.proofs.Seen.{list_within}
use Rattle.eleos_clock.proofs.victims.first_free.Goals as goal

pub loop-place-init : goal.loop-place-init
loop-place-init g c = idles_same c.args.pass.now

pub try_free-requires-clause-may : goal.try_free-requires-clause-may
try_free-requires-clause-may g c = may_on c.args.m.now c.args.pass.now c.loop-place.pass c.args.clock.now c.requires.may c.loop-place.invariant.searches c.loop-place.invariant.turns

pub try_free-requires-clause-frame : goal.try_free-requires-clause-frame
try_free-requires-clause-frame g c =
    let clock = c.args.clock.now in
    let inside = subst (λ n. c.loop-place.place < n) c.count_of-place-end.ensures c.loop-place-test.true in
    let is = c.frame_in.ensures in
    let low = list_within c.args.pass.now c.left.ensures.lawful c.requires.may.enclave clock c.requires.may.turn (slice_index clock.clock c.loop-place.place)
    (c.loop-place.place, inside, same_default clock.clock c.loop-place.place (slice_index clock.clock c.loop-place.place) 0 inside) in
    subst (λ (y : Site). c.frame_in.result < all_frames (plan_at y)) c.requires.may.look.own (subst (λ f. f < all_frames (plan_at c.args.pass.now.hand.home)) (sym is) low)

pub returns-in-Some : goal.returns-in-Some
returns-in-Some g c =
    let inside = subst (λ n. c.loop-place.place < n) c.count_of-place-end.ensures c.loop-place-test.true in
    record {
      inside = inside;
      found = (c.if-not-free.false, c.in-Some.ensures.0 ∙ c.frame_in.ensures, free_on c.args.pass.now c.loop-place.pass c.try_free.new.pass c.in-Some.found c.left.ensures.lawful c.loop-place.invariant.searches c.loop-place.invariant.turns c.in-Some.ensures.1);
      notes = subst (λ ws. AreNotes c.args.clock.now.clock c.args.free (free_notes ws)) (sym (c.in-Some.ensures.2 ∙ ap (λ (w : Sweep). w.words) c.loop-place.invariant.sweep)) c.requires.notes;
      keeps = subst (λ ws. KeepsFree c.args.pass.now.sweep.words ws) (sym (c.in-Some.ensures.2 ∙ ap (λ (w : Sweep). w.words) c.loop-place.invariant.sweep)) (keeps_same c.args.pass.now.sweep.words);
      fresh = λ wrong. absurd (cc);
    }

pub loop-place-preserved : goal.loop-place-preserved
loop-place-preserved g c =
    idles_on c.args.pass.now c.loop-place.pass c.try_free.new.pass c.left.ensures.lawful c.loop-place.invariant (record { searches = c.in_default.ensures.0; turns = c.in_default.ensures.1; sweep = c.in_default.ensures.2 })

pub returns : goal.returns
returns g c = (c.loop-place.invariant.searches, c.loop-place.invariant.turns, c.loop-place.invariant.sweep)
