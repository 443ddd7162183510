use Rattle.std.proofs.Common.{◌≡◌, ℕ, ◌+◌, ◌*◌, ◌<◌, [], length, take, drop, get_or, ap, ◌∙◌, arith, length-take, length-drop}
use Rattle.std.proofs.lemmas.List.{get_or-take, get_or-drop}
use Rattle.eleos_lanes.proofs.Mirrors.{mirrored_block, vector_at}
use Rattle.eleos_lanes.proofs.eight.planes_of.Goals as goal

pub returns : goal.returns
returns c b low =
    let blocks = c.args.blocks.now in
    let own : get_or c.vectors.result b [] ≡ take 16 (drop (16 * b) blocks) = ap (λ v. get_or v b []) c.vectors.ensures ∙ vector_at blocks b low in
    let long : length (get_or c.vectors.result b []) ≡ 16 =
    omega (arith, ap length own, length-take 16 (drop (16 * b) blocks), length-drop (16 * b) blocks) in
    let fits : (i : ℕ) → i < 16 → get_or (get_or c.vectors.result b []) i 0 < 256 =
    λ i below.
    omega (arith, ap (λ xs. get_or xs i 0) own, get_or-take 16 (drop (16 * b) blocks) i 0 below, get_or-drop (16 * b) blocks i 0, c.fits-blocks (16 * b + i)) in
    mirrored_block c.to_planes.result c.vectors.result b c.to_planes.ensures low long fits ∙ own
