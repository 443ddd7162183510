use Rattle.std.proofs.Common.{◌≡◌, ◌*◌, ℕ, length, take, drop, replicate, ap, ◌∙◌, arith}
use Rattle.eleos_base.specs.AesCipher.{aes}
use Rattle.eleos_lanes.proofs.Fronts.{block_before, block_in_front}
use Rattle.eleos_aes.proofs.cipher.Aes.encrypt_front.Goals as goal

pub returns : goal.returns
returns c i within =
    let key = c.args.self.now in
    let n = length c.args.blocks.now in
    let zeros = drop n (replicate {A = ℕ} 128 0) in
    let self = c.copy_from_slice.new.self in
    let front = c.copy_from_slice.ensures.after in
    let size : length self ≡ n = ap length front in
    ap (λ xs. take 16 (drop (16 * i) xs)) c.copy_from_slice-2.ensures.after
    ∙ block_in_front n i c.encrypt_eight.new.blocks within
    ∙ c.encrypt_eight.ensures i (omega (arith, c.requires))
    ∙ ap (aes key) (block_before i self zeros (omega arith) ∙ ap (λ xs. take 16 (drop (16 * i) xs)) front)
