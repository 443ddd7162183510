use Rattle.std.proofs.Common.{arith, ◌<◌, ◌++◌, ◌∷◌, [], ℕ, sym, ap, ◌∙◌, subst, le_trans}
use lib.ListN.{get_elem?}
use Rattle.std.specs.Slots.{slots_items, slots_filled, slots_len, slots_counts}
use Rattle.eleos_turn.specs.Rule.{base_of}
use Rattle.eleos_turn.proofs.Seats.{ends}
use Rattle.eleos_turn.proofs.Calls.{one_out, one_empty, opening_length}
use Rattle.eleos_turn.proofs.table.emptied.Goals as goal

pub loop-i-preserved : goal.loop-i-preserved
loop-i-preserved g c = let o = c.take-slot.ensures.others in let inv = c.loop-i.invariant in let count = slots_counts c.loop-i.closed.slots in let end = c.slot_count-count.ensures in let below = c.loop-i-test.true in let len = inv.3 in
    let more = one_out (slots_items c.close_with-closed.result.slots) c.loop-i.room.items c.push.new.self.items c.take-slot.result c.loop-i.i inv.4 inv.5 (ap (λ l. get_elem? l c.loop-i.i) (sym inv.2) ∙ c.take-slot.ensures.value) (c.in-Ok.ensures.items ∙ ap (λ x. c.loop-i.room.items ++ x ∷ []) c.into_value.ensures) in
    let fewer = one_empty (slots_filled c.loop-i.closed.slots) (slots_filled c.take-slot.new.self.slots) c.loop-i.i (slots_len c.loop-i.closed.slots) (omega (arith, count.1, end, below, len)) o.1 inv.0 inv.1 in
    ((λ k a b. fewer.0 k a (subst (λ (n : ℕ). k < n) o.2 b)), fewer.1, o.0 ∙ inv.2, o.2 ∙ inv.3, more.0, more.1, le_trans inv.6 c.push.ensures.capacity)

pub returns-clause-cells : goal.returns-clause-cells
returns-clause-cells g c k inside = let inv = c.loop-i.invariant in let b = base_of g.P.Plot.terms c.args.table.shared.key in let many = opening_length g.P.Plot.terms c.args.table.shared.key in
    let all = (ends g.P.Plot.terms b c.args.seat.id c.args.seat.me.0 _ _ c.requires.idle.0 c.requires.idle.1 c.requires.all c.close_with-closed.ensures.values.2).1 k (omega (arith, inside, many)) in
    let counts = c.close_with-closed.ensures.counts.1 in let sized = c.requires.sized in let over = c.loop-i-test.false in let end = c.slot_count-count.ensures in
    (all.0, inv.5 k (omega (arith, inside, counts, sized, over, end)) ∙ all.1, all.2)
