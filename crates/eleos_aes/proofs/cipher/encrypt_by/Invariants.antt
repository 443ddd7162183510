use Rattle.std.proofs.Common.{◌≡◌, ℕ, ◌*◌, ◌<◌, List, take, drop}
use Rattle.eleos_base.specs.AesCipher.{rounds}
use Rattle.eleos_lanes.specs.Planes.{block_at}
use Rattle.eleos_aes.specs.Sliced.{HasKeys}
use Rattle.eleos_aes.proofs.cipher.encrypt_by.Given as goal

abbrev pub invariant-rounds : goal.invariant-rounds
invariant-rounds l =
    (words : List (List ℕ)) (b : ℕ) → HasKeys words l.keys → b < 8
    → block_at l.planes b ≡ rounds words (take 16 (drop (16 * b) l.fn.blocks)) l.round
