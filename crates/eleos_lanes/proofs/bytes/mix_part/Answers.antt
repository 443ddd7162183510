use Rattle.std.proofs.Common.{◌≡◌, ◌*◌, ℕ, length, take, drop, replicate, ap, ◌∙◌, arith}
use Rattle.eleos_base.specs.AesState.{mix_columns}
use Rattle.eleos_lanes.proofs.Fronts.{block_before, block_in_front}
use Rattle.eleos_lanes.proofs.bytes.mix_part.Goals as goal

pub returns : goal.returns
returns c b within =
    let n = length c.args.part.now in
    let zeros = drop n (replicate {A = ℕ} 128 0) in
    let self = c.copy_from_slice.new.self in
    let front = c.copy_from_slice.ensures.after in
    let size : length self ≡ n = ap length front in
    ap (λ xs. take 16 (drop (16 * b) xs)) c.copy_from_slice-2.ensures.after
    ∙ block_in_front n b c.put_blocks.new.blocks within
    ∙ c.put_blocks.ensures b (omega (arith, c.requires))
    ∙ c.mix_planes.ensures b (omega (arith, c.requires))
    ∙ ap mix_columns
    (c.planes_of.ensures b (omega (arith, c.requires)) ∙ block_before b self zeros (omega arith)
    ∙ ap (λ xs. take 16 (drop (16 * b) xs)) front)
