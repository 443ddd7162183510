use Rattle.std.proofs.Common.{◌≡◌, ℕ, ◌<◌, List, length, get_or, slice_index, sym, ◌∙◌, ap, subst, arith}
use Rattle.eleos_base.specs.Places.{all_frames}
use Rattle.eleos_core.specs.Sweeps.{frames_in}
use Rattle.eleos_turn.specs.Numbers.{times}
use Rattle.eleos_machine.specs.Machines.{Site, plan_at}
use Rattle.eleos_machine.specs.Notes.{free_notes, is_noted_free}
use Rattle.eleos_clock.specs.Answered.{FoundIn, KeepsFree, Passed}
use Rattle.eleos_clock.specs.Going.{GoesRound}
use Rattle.eleos_clock.specs.Lists.{AreNotes, first_place, frame_at, place_at}
use Rattle.eleos_clock.proofs.Lists.{first_inside, place_inside}
use Rattle.eleos_clock.proofs.Noted.{notes_kept}
use Rattle.eleos_clock.proofs.Rounding.{few, found_on, goes_on, in_machine, may_on, once, room, round_ends_at, starts}
use Rattle.eleos_clock.proofs.rounds.round.Goals as goal

starts_within : (start hand count n : ℕ) → start ≡ first_place hand count → count ≡ n → 0 < n → start < n
starts_within start hand count n is same some = subst (λ z. z < n) (sym (is ∙ ap (first_place hand) same)) (first_inside hand n some)

there : (list : List ℕ) (start i count place frame : ℕ) → count ≡ length list → place ≡ place_at start i count → frame ≡ slice_index list place → start < length list → i < length list → frame ≡ frame_at list start i
there list start i count place frame n at is within lt = is ∙ ap (slice_index list) (at ∙ ap (place_at start i) n)

pub loop-i-init : goal.loop-i-init
loop-i-init g c =
    let s = c.args.pass.now in let clock = c.args.clock.now in let home = c.requires.may.look.own in let law = c.left.ensures.lawful in
    let n : c.count_of-count.result ≡ length clock.clock = c.count_of-count.ensures in
    starts c.args.m.now s clock c.args.free c.args.all c.requires.may law c.first_place-start.result c.sweep_clear.new.pass c.requires.notes c.sweep_clear.ensures

pub place_at-place-requires-clause-few : goal.place_at-place-requires-clause-few
place_at-place-requires-clause-few g c =
    let s = c.args.pass.now in let clock = c.args.clock.now in let home = c.requires.may.look.own in let law = c.left.ensures.lawful in
    let n : c.count_of-count.result ≡ length clock.clock = c.count_of-count.ensures in
    let most = few c.args.m.now s clock c.args.free c.args.all c.requires.may law in omega (arith, n, most)

pub visit-requires-clause-may : goal.visit-requires-clause-may
visit-requires-clause-may g c = may_on c.args.m.now c.args.pass.now c.loop-i.pass c.args.clock.now c.requires.may c.loop-i.invariant.searches c.loop-i.invariant.turns

pub visit-requires-clause-frame : goal.visit-requires-clause-frame
visit-requires-clause-frame g c =
    let s = c.args.pass.now in let clock = c.args.clock.now in let home = c.requires.may.look.own in let law = c.left.ensures.lawful in
    let n : c.count_of-count.result ≡ length clock.clock = c.count_of-count.ensures in
    let lt : c.loop-i.i < length clock.clock = let l = c.loop-i-test.true in omega (arith, l, n) in
    let within = starts_within c.first_place-start.result clock.hand c.count_of-count.result (length clock.clock) c.first_place-start.ensures n (omega (arith, lt)) in
    let at = there clock.clock c.first_place-start.result c.loop-i.i c.count_of-count.result c.place_at-place.result c.frame_in-frame.result n c.place_at-place.ensures c.frame_in-frame.ensures within lt in
    subst (λ (y : Site). c.frame_in-frame.result < all_frames (plan_at y)) home (subst (λ f. f < all_frames (plan_at s.hand.home)) (sym at) (in_machine c.args.m.now s clock c.args.free c.args.all c.requires.may law c.first_place-start.result within c.loop-i.i lt))

pub visit-requires-clause-room : goal.visit-requires-clause-room
visit-requires-clause-room g c =
    let s = c.args.pass.now in let clock = c.args.clock.now in let home = c.requires.may.look.own in let law = c.left.ensures.lawful in
    let n : c.count_of-count.result ≡ length clock.clock = c.count_of-count.ensures in
    let lt : c.loop-i.i < length clock.clock = let l = c.loop-i-test.true in omega (arith, l, n) in
    let within = starts_within c.first_place-start.result clock.hand c.count_of-count.result (length clock.clock) c.first_place-start.ensures n (omega (arith, lt)) in
    let at = there clock.clock c.first_place-start.result c.loop-i.i c.count_of-count.result c.place_at-place.result c.frame_in-frame.result n c.place_at-place.ensures c.frame_in-frame.ensures within lt in
    λ unnoted. subst (λ (y : Site). length c.loop-i.pass.sweep.words < all_frames (plan_at y)) home (room c.args.m.now s clock c.args.free c.args.all c.requires.may law c.first_place-start.result within c.loop-i.i lt c.loop-i.pass c.loop-i.invariant (ap (λ f. is_noted_free f c.loop-i.pass.sweep.words) (sym at) ∙ unnoted))

pub visit-requires-clause-once : goal.visit-requires-clause-once
visit-requires-clause-once g c =
    let s = c.args.pass.now in let clock = c.args.clock.now in let home = c.requires.may.look.own in let law = c.left.ensures.lawful in
    let n : c.count_of-count.result ≡ length clock.clock = c.count_of-count.ensures in
    let lt : c.loop-i.i < length clock.clock = let l = c.loop-i-test.true in omega (arith, l, n) in
    let within = starts_within c.first_place-start.result clock.hand c.count_of-count.result (length clock.clock) c.first_place-start.ensures n (omega (arith, lt)) in
    let at = there clock.clock c.first_place-start.result c.loop-i.i c.count_of-count.result c.place_at-place.result c.frame_in-frame.result n c.place_at-place.ensures c.frame_in-frame.ensures within lt in
    λ unnoted. ap (λ f. times f (frames_in c.loop-i.pass.sweep.words)) at ∙ once c.args.m.now s clock c.args.free c.args.all c.requires.may law c.first_place-start.result within c.loop-i.i lt c.loop-i.pass c.loop-i.invariant (ap (λ f. is_noted_free f c.loop-i.pass.sweep.words) (sym at) ∙ unnoted)

pub frame_in-frame-requires : goal.frame_in-frame-requires
frame_in-frame-requires g c =
    let clock = c.args.clock.now in
    let n : c.count_of-count.result ≡ length clock.clock = c.count_of-count.ensures in
    let lt : c.loop-i.i < length clock.clock = let l = c.loop-i-test.true in omega (arith, l, n) in
    let within = starts_within c.first_place-start.result clock.hand c.count_of-count.result (length clock.clock) c.first_place-start.ensures n (omega (arith, lt)) in
    subst (λ z. z < length clock.clock) (sym (c.place_at-place.ensures ∙ ap (place_at c.first_place-start.result c.loop-i.i) n)) (place_inside c.first_place-start.result c.loop-i.i (length clock.clock) within lt)

pub returns-in-Some : goal.returns-in-Some
returns-in-Some g c =
    let s = c.args.pass.now in let clock = c.args.clock.now in let home = c.requires.may.look.own in let law = c.left.ensures.lawful in
    let n : c.count_of-count.result ≡ length clock.clock = c.count_of-count.ensures in
    let lt : c.loop-i.i < length clock.clock = let l = c.loop-i-test.true in omega (arith, l, n) in
    let within = starts_within c.first_place-start.result clock.hand c.count_of-count.result (length clock.clock) c.first_place-start.ensures n (omega (arith, lt)) in
    let at = there clock.clock c.first_place-start.result c.loop-i.i c.count_of-count.result c.place_at-place.result c.frame_in-frame.result n c.place_at-place.ensures c.frame_in-frame.ensures within lt in
    record {
      inside = subst (λ z. z < length clock.clock) (sym (c.place_at-place.ensures ∙ ap (place_at c.first_place-start.result c.loop-i.i) n)) (place_inside c.first_place-start.result c.loop-i.i (length clock.clock) within lt);
      found = found_on s c.loop-i.pass c.visit.new.pass _ c.args.free c.in-Some.found law c.loop-i.invariant.searches c.loop-i.invariant.turns
          (subst (λ f. FoundIn c.loop-i.pass f c.args.free c.in-Some.found c.visit.new.pass) (at ∙ ap (λ p. get_or clock.clock p 0) (sym (c.place_at-place.ensures ∙ ap (place_at c.first_place-start.result c.loop-i.i) n))) c.in-Some.ensures.0);
      notes = subst (λ ws. AreNotes clock.clock c.args.free (free_notes ws)) (sym c.in-Some.ensures.1.words) (notes_kept clock.clock c.args.free c.loop-i.pass.sweep.words c.loop-i.invariant.far.notes);
      keeps = subst (λ ws. KeepsFree s.sweep.words ws) (sym c.in-Some.ensures.1.words) c.loop-i.invariant.keeps;
      fresh = λ _. subst (λ f. times f (frames_in c.visit.new.pass.sweep.words) ≡ 0) (at ∙ ap (λ p. get_or clock.clock p 0) (sym (c.place_at-place.ensures ∙ ap (place_at c.first_place-start.result c.loop-i.i) n)))
          (subst (λ ws. times c.frame_in-frame.result (frames_in ws) ≡ 0) (sym c.in-Some.ensures.1.words)
          (ap (λ f. times f (frames_in c.loop-i.pass.sweep.words)) at ∙ once c.args.m.now s clock c.args.free c.args.all c.requires.may law c.first_place-start.result within c.loop-i.i lt c.loop-i.pass c.loop-i.invariant (ap (λ f. is_noted_free f c.loop-i.pass.sweep.words) (sym at) ∙ c.in-Some.ensures.1.unnoted)));
    }

pub loop-i-preserved : goal.loop-i-preserved
loop-i-preserved g c =
    let s = c.args.pass.now in let clock = c.args.clock.now in let home = c.requires.may.look.own in let law = c.left.ensures.lawful in
    let n : c.count_of-count.result ≡ length clock.clock = c.count_of-count.ensures in
    let lt : c.loop-i.i < length clock.clock = let l = c.loop-i-test.true in omega (arith, l, n) in
    let within = starts_within c.first_place-start.result clock.hand c.count_of-count.result (length clock.clock) c.first_place-start.ensures n (omega (arith, lt)) in
    let at = there clock.clock c.first_place-start.result c.loop-i.i c.count_of-count.result c.place_at-place.result c.frame_in-frame.result n c.place_at-place.ensures c.frame_in-frame.ensures within lt in
    goes_on c.args.m.now s clock c.args.free c.args.all c.requires.may law c.first_place-start.result within c.loop-i.i lt c.loop-i.pass c.loop-i.invariant c.visit.new.pass (subst (λ f. Passed c.loop-i.pass f c.args.free c.args.all c.visit.new.pass) at c.in_default.ensures)

pub returns : goal.returns
returns g c =
    let s = c.args.pass.now in let clock = c.args.clock.now in let home = c.requires.may.look.own in let law = c.left.ensures.lawful in
    let n : c.count_of-count.result ≡ length clock.clock = c.count_of-count.ensures in
    let last = c.loop-i-test.false in let upto = c.loop-i.auto.i-end in
    round_ends_at c.args.m.now s clock c.args.free c.args.all c.requires.may law c.first_place-start.result c.loop-i.pass
    (λ some. starts_within c.first_place-start.result clock.hand c.count_of-count.result (length clock.clock) c.first_place-start.ensures n some)
    (subst (λ i. GoesRound s clock c.first_place-start.result i c.args.free c.args.all c.loop-i.pass) (omega (arith, last, upto, n)) c.loop-i.invariant)
