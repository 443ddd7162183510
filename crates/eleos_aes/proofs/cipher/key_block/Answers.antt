use Rattle.std.proofs.Common.{refl, arith, ◌+◌, ◌*◌}
use Rattle.eleos_aes.specs.Sliced.{key_block}
use Rattle.eleos_aes.proofs.States.{get_or-round_key}
use Rattle.eleos_aes.proofs.cipher.key_block.Goals as goal

pub returns : goal.returns
unfolding key_block
returns c =
    let words = c.args.words.now in
    let n = c.args.n in
    rw (
      get_or-round_key words n 0 (4 * n) (omega arith) (omega arith),
      get_or-round_key words n 1 (4 * n + 1) (omega arith) refl,
      get_or-round_key words n 2 (4 * n + 2) (omega arith) refl,
      get_or-round_key words n 3 (4 * n + 3) (omega arith) refl,
    )
