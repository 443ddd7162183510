use Rattle.std.proofs.Common.{◌≡◌, ◌*◌, ◌/◌, ◌^◌, ◌<◌, length, arith}
use Rattle.eleos_base.specs.Ghash.{ghash}
use Rattle.eleos_base.specs.Gcm.{block_count}
use Rattle.eleos_gcm.proofs.Padding.{padded_whole}
use Rattle.eleos_gcm.proofs.HornerRule.{horner_from_zero}
use Rattle.eleos_gcm.proofs.hash.ghash.Goals as goal

pub returns : goal.returns
unfolding ghash
returns c =
    let bytes = c.args.bytes.now in
    let whole : length bytes ≡ 16 * (length bytes / 16) = omega arith in
    let count : block_count (length bytes) ≡ length bytes / 16 = omega arith in
    let below : c.number_of.result < 2 ^ 128 = omega arith in
    rw (
      c.block_of.ensures,
      c.hash_from.ensures.hash,
      c.of.ensures,
      padded_whole bytes (length bytes / 16) whole,
      count,
      horner_from_zero c.number_of.result _ below,
      c.number_of.ensures,
    )
