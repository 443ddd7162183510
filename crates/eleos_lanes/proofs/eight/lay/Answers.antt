use Rattle.std.proofs.Common.{◌≡◌, ◌+◌, ◌-◌, ◌*◌, [], length, get_or, ap, ◌∙◌, arith, inl, inr}
use Rattle.std.proofs.lemmas.Bool.{cases_eq}
use Rattle.eleos_lanes.proofs.Mirrors.{row_written, row_kept, length-row_written}
use Rattle.eleos_lanes.proofs.eight.lay.Goals as goal

pub loop-k-preserved : goal.loop-k-preserved
loop-k-preserved c =
    let k = c.loop-k.k in
    let bytes = c.loop-k.bytes in
    let row = c.copy_from_slice.new.self in
    let i = c.loop-k.invariant in
    let long : length row ≡ 16 = omega (arith, ap length c.copy_from_slice.ensures.after) in
    let is : row ≡ get_or c.args.v k [] = c.copy_from_slice.ensures.after ∙ c.lanes_of.ensures.lanes in
    let width : 16 * k + 16 - 16 * k ≡ 16 = omega arith in
    rw width (
      length-row_written bytes row k (omega arith) long ∙ i.0,
      (λ j below. elim (cases_eq j k) [
        | inl same ↦ rw same (row_written bytes row k (omega arith) long ∙ is)
        | inr other ↦ row_kept bytes row j k (omega arith) (omega arith) ∙ i.1 j (omega arith)
      ]),
      (λ j n below. elim (cases_eq j k) [
        | inl same ↦ rw same (c.lanes_of.ensures.fit n)
        | inr other ↦ i.2 j n (omega arith)
      ]),
    )
