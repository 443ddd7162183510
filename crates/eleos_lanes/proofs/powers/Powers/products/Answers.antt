use Rattle.std.proofs.Common.{◌≡◌, ◌+◌, ◌-◌, ◌^◌, ◌<◌, List, ℕ, bit_xor, length, ap, ap₂, sym, ◌∙◌, arith, Fits, w8}
use Rattle.std.proofs.lemmas.Simd.{Each1-weaker}
use Rattle.std.specs.Simd.Lanes.{Each1}
use Rattle.eleos_base.specs.BlockField.{number_of, power, product}
use Rattle.eleos_base.proofs.BlockFieldLemmas.{power-lt}
use Rattle.eleos_lanes.proofs.PowerLemmas.{four_end, four_from, four_next, four_row, length-four_row}
use Rattle.eleos_lanes.proofs.RowSums.{product_by_bytes, rows_from, rows_from_all}
use Rattle.eleos_lanes.proofs.Sums.{no_rows, sum_step}
use Rattle.eleos_lanes.proofs.powers.Powers.products.Goals as goal

pub loop-j-init : goal.loop-j-init
loop-j-init c = (no_rows _ (four_end c.args.self.now c.args.a c.args.b c.args.c c.args.d), (λ some. absurd (omega arith)))

pub loop-j-preserved : goal.loop-j-preserved
loop-j-preserved c =
    let h = c.args.self.now in
    let j = c.loop-j.j in
    let a = c.args.a in
    let b = c.args.b in
    let x = c.args.c in
    let d = c.args.d in
    let one : 16 - j ≡ 15 - j + 1 = omega arith in
    let next : 16 - (j + 1) ≡ 15 - j = omega arith in
    let sum = rw one at c.loop-j.invariant.0 in
    let stepped =
    sum_step (four_from h (15 - j + 1) a b x d) c.loop-j.front c.loop-j.back (four_row h (15 - j) a b x d) j c.loop-j-test.true
    (length-four_row h (15 - j) a b x d c.fits-a.0 c.fits-b.0 c.fits-c.0 c.fits-d.0) sum in (
      rw (next, c.step.ensures.front, c.step.ensures.back, c.rows.ensures.row)
          (rw (four_next h (15 - j) a b x d (omega arith) c.fits-a.0 c.fits-b.0 c.fits-c.0 c.fits-d.0) at stepped),
      (λ some. c.rows.ensures.fits),
    )

one : (h n : ℕ) (x : List ℕ) → h < 2 ^ 128 → length x ≡ 16 → Each1 (Fits w8) x → rows_from (power h n) 0 x ≡ product (number_of x) (power h n)
one h n x below long fits =
    rows_from_all (power h n) x (power-lt h n below)
    ∙ sym (product_by_bytes (power h n) x long (Each1-weaker (Fits w8) (λ b. b < 256) (λ b f. omega (arith, f.fits)) x fits))

pub returns-clause-fits : goal.returns-clause-fits
returns-clause-fits c = c.loop-j.invariant.1 (omega arith)

pub returns-clause-sum : goal.returns-clause-sum
returns-clause-sum c =
    let h = c.args.self.now in
    let none : 16 - c.loop-j.j ≡ 0 = omega arith in
    let below : h < 2 ^ 128 = c.loop-j.invariant.1 (omega arith) in
    c.reduced.ensures ∙ c.loop-j.invariant.0.is ∙ ap (λ t. four_from h t c.args.a c.args.b c.args.c c.args.d) none
    ∙ ap₂ bit_xor
    (ap₂ bit_xor (one h 4 c.args.a below c.fits-a.0 c.fits-a.1) (one h 3 c.args.b below c.fits-b.0 c.fits-b.1))
    (ap₂ bit_xor (one h 2 c.args.c below c.fits-c.0 c.fits-c.1) (one h 1 c.args.d below c.fits-d.0 c.fits-d.1))
