use Rattle.std.proofs.Common.{[], ◌∷◌, length, vec_capacity, arith, ap, ◌∙◌, length-append}
use Rattle.std.proofs.lemmas.List.{length-map}
use Rattle.eleos_machine.specs.Passes.{PassState}
use Rattle.eleos_machine.proofs.Stamps.{room_is, two_last, two_less}
use Rattle.eleos_machine.proofs.closing.parted.Goals as goal

pub with_hands-hands-requires-clause-room : goal.with_hands-hands-requires-clause-room
with_hands-hands-requires-clause-room c =
    let room = room_is c.args._turnstile.now c.args.passes.items c.pop.new.self.items c.in-Some-Some.last [] _ (vec_capacity c.last.inside.local.room) c.in-Some-Some.ensures.items c.requires.own c.last.view_is c.last.invariant.3 in
    let count = two_less c.args.passes.items c.pop.new.self.items c.pop-2.new.self.items c.in-Some-Some.last c.in-Some-Some.other c.in-Some-Some.ensures.items c.in-Some-Some.ensures'.items in
    let all = c.requires.all in
    omega (arith, room, count, all)

pub with_hand-hands-requires : goal.with_hand-hands-requires
with_hand-hands-requires c =
    let room = room_is c.args._turnstile.now c.args.passes.items c.pop.new.self.items c.in-Some-Some.last [] _ (vec_capacity c.last.inside.local.room) c.in-Some-Some.ensures.items c.requires.own c.last.view_is c.last.invariant.3 in
    let count = two_less c.args.passes.items c.pop.new.self.items c.pop-2.new.self.items c.in-Some-Some.last c.in-Some-Some.other c.in-Some-Some.ensures.items c.in-Some-Some.ensures'.items in
    let all = c.requires.all in
    let hands = ap length c.with_hands-hands.ensures.hands ∙ length-map c.pop-2.new.self.items (λ (s : PassState). s.hand) in
    let grows = c.with_hands-hands.ensures.room in
    record { room = omega (arith, room, count, all, hands, grows) }

pub with_hand-hands-requires-2 : goal.with_hand-hands-requires-2
with_hand-hands-requires-2 c =
    let room = room_is c.args._turnstile.now c.args.passes.items c.pop.new.self.items c.in-Some-Some.last [] _ (vec_capacity c.last.inside.local.room) c.in-Some-Some.ensures.items c.requires.own c.last.view_is c.last.invariant.3 in
    let count = two_less c.args.passes.items c.pop.new.self.items c.pop-2.new.self.items c.in-Some-Some.last c.in-Some-Some.other c.in-Some-Some.ensures.items c.in-Some-Some.ensures'.items in
    let all = c.requires.all in
    let hands = ap length c.with_hands-hands.ensures.hands ∙ length-map c.pop-2.new.self.items (λ (s : PassState). s.hand) in
    let more = ap length c.with_hand-hands.ensures.hands ∙ length-append c.with_hands-hands.result.items (c.other.inside.hand ∷ []) in
    let grows = c.with_hands-hands.ensures.room in
    let grows' = c.with_hand-hands.ensures.room in
    record { room = omega (arith, room, count, all, hands, more, grows, grows') }

pub returns-clause-room : goal.returns-clause-room
returns-clause-room c =
    room_is c.args._turnstile.now c.args.passes.items c.pop-2.new.self.items c.in-Some-Some.other (c.in-Some-Some.last ∷ []) _ (vec_capacity c.other.inside.local.room)
    (two_last c.args.passes.items c.pop.new.self.items c.pop-2.new.self.items c.in-Some-Some.last c.in-Some-Some.other c.in-Some-Some.ensures.items c.in-Some-Some.ensures'.items)
    c.requires.own c.other.view_is c.other.invariant.3
