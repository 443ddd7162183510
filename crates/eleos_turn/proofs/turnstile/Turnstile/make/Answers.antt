use Rattle.std.proofs.Common.{arith, ◌≡◌, ℕ, length, map, get_or, replicate, refl, ap, ◌∙◌, Some}
use lib.ListN.{length-replicate, length-map}
use Rattle.eleos_turn.specs.Words.{words_for}
use Rattle.eleos_turn.specs.Rule.{base_of}
use Rattle.eleos_turn.proofs.Seats.{opens}
use Rattle.eleos_turn.proofs.Calls.{all_zero, sized}
use Rattle.eleos_turn.proofs.turnstile.Turnstile.make.Goals as goal

pub new-requires : goal.new-requires
new-requires g c = let words : c.as_slice.result.now ≡ replicate {A = ℕ} (words_for c.len-count.result) 0 = c.as_slice.ensures.value ∙ c.in-Ok-zeros.ensures in let count = c.len-count.ensures in
    let long = ap length words in let many = length-replicate {A = ℕ} (words_for c.len-count.result) 0 in
    opens g.P.Plot.terms (base_of g.P.Plot.terms record { cells = c.of.result; grounds = c.of-2.result; hands = c.from.result; each = c.args.stamps }) c.args.cells.items c.as_slice.result.now c.in-Ok.slots.items
    (ap (λ v. map g.P.Plot.terms.part v.items) c.of.ensures) c.in-Ok.ensures (omega (arith, long, many, count)) (λ i. ap (λ l. get_or l i 0) words ∙ all_zero (words_for c.len-count.result) i)

pub invariant_of-cells : goal.invariant_of-cells
invariant_of-cells g c = let made = c.in-Ok-new.ensures.ok in
    let words : c.as_slice.result.now ≡ replicate {A = ℕ} (words_for c.len-count.result) 0 = c.as_slice.ensures.value ∙ c.in-Ok-zeros.ensures in let count = c.len-count.ensures in
    let long = ap length words in let many = length-replicate {A = ℕ} (words_for c.len-count.result) 0 in
    record {
      sized = sized c.in-Ok-new.table.shared.table_id c.in-Ok-new.table.shared.key record { cells = c.of.result; grounds = c.of-2.result; hands = c.from.result; each = c.args.stamps } c.args.cells.items
          (length c.as_slice.result.now) (length c.in-Ok.slots.items) c.args.hands c.args.stamps made.5 (ap (λ v. v.items) c.of.ensures) made.0 made.1 (omega (arith, long, many, count))
          (ap length c.in-Ok.ensures ∙ length-map c.args.cells.items (λ x. Some x)) c.from.ensures refl c.requires.1.1.1.1.1.0.1 c.requires.1.1.1.1.1.1.0.1 c.requires.1.1.1.1.1.1.1;
    }

pub invariant_of-result : goal.invariant_of-result
invariant_of-result g c = let made = c.in-Ok-new.ensures.ok in let count = c.len-count.ensures in (
  c.in-Ok-with_capacity.ensures.items,
  (let cap = c.in-Ok-with_capacity.ensures.capacity in let same = ap (λ k. length k.cells.value.items) made.5 in let kept = ap (λ v. length v.items) c.of.ensures in omega (arith, cap, same, kept, count)),
  (let same = ap (λ k. k.hands) made.5 in let from = c.from.ensures in omega (arith, same, from)),
  c.requires.1.1.1.1.1.0.0,
)
