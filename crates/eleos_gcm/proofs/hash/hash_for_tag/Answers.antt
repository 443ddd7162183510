use Rattle.std.proofs.Common.{ap, arith}
use Rattle.eleos_base.specs.BlockField.{block_of}
use Rattle.eleos_gcm.proofs.HashParts.{hash_in_parts}
use Rattle.eleos_gcm.proofs.hash.hash_for_tag.Goals as goal

pub returns : goal.returns
returns c =
    let below = c.hash_from.ensures.fits (omega arith) in
    rw (
      c.block_of.ensures,
      c.hash_from.ensures.hash,
      c.hash_from-sum-2.ensures.hash,
      c.hash_from-sum.ensures.hash,
      ← c.lengths-block.ensures,
    )
    (ap block_of (hash_in_parts c.args.powers.now c.args.aad.now c.args.ciphertext.now c.lengths-block.result below (omega arith)))
