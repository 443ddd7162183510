use Rattle.std.proofs.Common.{◌≡◌, ◌/◌, length, arith, inl, inr}
use Rattle.std.proofs.lemmas.Bool.{cases_lt}
use Rattle.eleos_gcm.proofs.Fours.{all_hashed, four_hashed, none_hashed, one_hashed}
use Rattle.eleos_gcm.proofs.hash.hash_from.Goals as goal

pub fours-init : goal.fours-init
fours-init c = (none_hashed c.args.powers.now c.args.start c.args.bytes.now, omega arith, (λ some. absurd (omega arith)))

pub fours-preserved : goal.fours-preserved
fours-preserved c =
    let below = c.absorb_four-sum.ensures.fits in (
      four_hashed c.args.powers.now c.args.start c.args.bytes.now c.four_at.result c.fours.sum c.absorb_four-sum.result c.fours.i below
          c.fours.invariant.1 (omega arith) c.four_at.ensures c.absorb_four-sum.ensures.hash c.fours.invariant.0,
      omega (arith, c.absorb_four-sum.type_inv),
      (λ some. below),
    )

pub others-init : goal.others-init
others-init c =
    let bytes = c.args.bytes.now in
    let done : c.fours.i ≡ length bytes / 64 = omega arith in
    let hashed = rw done at c.fours.invariant.0 in
    (hashed, (λ some. c.fours.invariant.2 (omega arith)), (λ some. absurd (omega arith)))

pub others-preserved : goal.others-preserved
others-preserved c = (
  one_hashed c.args.powers.now c.args.start c.args.bytes.now c.block_at.result c.others.sum c.absorb-sum.result c.others.i
      (omega (arith, c.block_count-i-end.ensures)) c.block_at.ensures c.absorb-sum.ensures.hash c.others.invariant.0,
  (λ some. c.absorb-sum.ensures.fits),
  (λ some. c.absorb-sum.ensures.fits),
)

pub returns-clause-fits : goal.returns-clause-fits
returns-clause-fits c some =
    let fours = length c.args.bytes.now / 64 in
    elim (cases_lt 0 fours) [
      | inl whole ↦ c.others.invariant.1 whole
      | inr none ↦ c.others.invariant.2 (omega (arith, c.block_count-i-end.ensures))
    ]

pub returns-clause-hash : goal.returns-clause-hash
returns-clause-hash c = all_hashed c.args.powers.now c.args.start c.args.bytes.now c.others.sum c.others.i (omega (arith, c.block_count-i-end.ensures)) c.others.invariant.0
