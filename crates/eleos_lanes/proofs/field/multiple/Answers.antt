use Rattle.std.proofs.Common.{bit_xor, ap, ap₂, ◌∙◌, sym}
use Rattle.std.proofs.lemmas.Nat.{and_mask}
use Rattle.std.proofs.lemmas.Nat.Bits.{shr_and_one, bit_at_lowest}
use Rattle.std.specs.Int.Bits.{xor_zero_r}
use Rattle.eleos_base.specs.BlockField.{times_bits, times_x, where_set}
use Rattle.eleos_lanes.proofs.field.multiple.Goals as goal

pub returns : goal.returns
unfolding times_bits
returns c =
    let n = c.from-n.result in
    let h = c.args.h in
    let h1 = c.times_x-h1.ensures in
    let h2 = c.times_x-h2.ensures ∙ ap times_x h1 in
    let h3 = c.times_x-h3.ensures ∙ ap times_x h2 in
    rw (← c.from-n.ensures)
    (ap₂ bit_xor (c.where_set.ensures ∙ ap (λ b. where_set b h) (shr_and_one n 3))
    (ap₂ bit_xor (c.where_set-2.ensures ∙ ap₂ where_set (shr_and_one n 2) h1)
    (ap₂ bit_xor (c.where_set-3.ensures ∙ ap₂ where_set (shr_and_one n 1) h2)
    (c.where_set-4.ensures ∙ ap₂ where_set (and_mask n 1 ∙ sym (bit_at_lowest n)) h3 ∙ sym (xor_zero_r _)))))
