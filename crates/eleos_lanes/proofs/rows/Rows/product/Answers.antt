use Rattle.std.proofs.Common.{◌≡◌, ◌+◌, ◌-◌, ◌^◌, ◌<◌, get_or, length, ap, sym, ◌∙◌, arith, Fits, w8}
use Rattle.std.proofs.lemmas.List.{length-map}
use Rattle.std.proofs.lemmas.Simd.{Each1-weaker}
use Rattle.eleos_base.specs.BlockField.{block_of, times_bits}
use Rattle.eleos_lanes.specs.Rows.{row}
use Rattle.eleos_lanes.proofs.RowSums.{product_by_bytes, rows_from, rows_from_all, rows_from_end, rows_from_next}
use Rattle.eleos_lanes.proofs.Sums.{no_rows, sum_step}
use Rattle.eleos_lanes.proofs.rows.Rows.product.Goals as goal

pub loop-j-init : goal.loop-j-init
loop-j-init c = (no_rows _ (sym (rows_from_end c.args.self.now c.args.x)), (λ some. absurd (omega arith)))

pub loop-j-preserved : goal.loop-j-preserved
unfolding row
loop-j-preserved c =
    let h = c.args.self.now in
    let j = c.loop-j.j in
    let x = c.args.x in
    let one : 16 - j ≡ 15 - j + 1 = omega arith in
    let next : 16 - (j + 1) ≡ 15 - j = omega arith in
    let long : length (row h (15 - j) x) ≡ 16 = length-map x (λ b. get_or (block_of (times_bits 8 b h)) (15 - j) 0) ∙ c.fits-x.0 in
    let sum = rw one at c.loop-j.invariant.0 in
    let stepped = sum_step (rows_from h (15 - j + 1) x) c.loop-j.front c.loop-j.back (row h (15 - j) x) j c.loop-j-test.true long sum in (
      rw (next, c.step.ensures.front, c.step.ensures.back, c.row.ensures.row)
          (rw (rows_from_next h (15 - j) x (omega arith)) at stepped),
      (λ some. c.row.ensures.fits),
    )

pub returns : goal.returns
returns c =
    let h = c.args.self.now in
    let x = c.args.x in
    let none : 16 - c.loop-j.j ≡ 0 = omega arith in
    let fits = Each1-weaker (Fits w8) (λ b. b < 256) (λ b f. omega (arith, f.fits)) x c.fits-x.1 in
    let below : h < 2 ^ 128 = c.loop-j.invariant.1 (omega arith) in
    c.reduced.ensures ∙ c.loop-j.invariant.0.is ∙ ap (λ t. rows_from h t x) none ∙ rows_from_all h x below
    ∙ sym (product_by_bytes h x c.fits-x.0 fits)
