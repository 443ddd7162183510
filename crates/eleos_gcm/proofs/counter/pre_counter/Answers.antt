use Rattle.std.proofs.Common.{arith, [], ◌∷◌}
use Rattle.std.proofs.lemmas.List.{set-append_right}
use Rattle.eleos_base.specs.Gcm.{pre_counter}
use Rattle.eleos_gcm.proofs.counter.pre_counter.Goals as goal

pub returns : goal.returns
unfolding pre_counter
returns c =
    rw c.copy_from_slice.ensures.after
    (set-append_right c.args.nonce.now (0 ∷ 0 ∷ 0 ∷ 0 ∷ []) 12 15 1 (omega arith) (omega arith))
