use Rattle.std.proofs.Common.{◌≡◌, ◌<◌, [], length, get_or-set_same, get_or-set_other, ap, sym, ◌∙◌, arith, inl, inr}
use Rattle.std.proofs.lemmas.Bool.{cases_eq}
use Rattle.std.proofs.lemmas.List.{length-set}
use Rattle.eleos_base.specs.BlockField.{block_of, times_bits}
use Rattle.eleos_lanes.proofs.Values.{block_of_is}
use Rattle.eleos_lanes.proofs.rows.multiples.Goals as goal

pub loop-n-preserved : goal.loop-n-preserved
loop-n-preserved c =
    let n = c.loop-n.n in
    let products = c.loop-n.products in
    let i = c.loop-n.invariant in
    let own = c.to_be_bytes.result in
    let is : own ≡ block_of (times_bits 4 n c.args.h) = c.to_be_bytes.ensures ∙ sym (block_of_is c.multiple.result) ∙ ap block_of c.multiple.ensures in
    let within : n < length products = omega (arith, i.0) in
    rw c.from.ensures (
      length-set products n own ∙ i.0,
      (λ k below. elim (cases_eq k n) [
        | inl same ↦ rw same (get_or-set_same products n own [] within ∙ is)
        | inr other ↦ get_or-set_other products n k own [] other ∙ i.1 k (omega arith)
      ]),
    )
