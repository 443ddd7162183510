use Rattle.std.proofs.Common.{◌≡◌, [], ◌∷◌, length, get_or, refl, ap, ◌∙◌, arith}
use Rattle.eleos_lanes.proofs.Bits.{below_eight}
use Rattle.eleos_lanes.proofs.Mirrors.{block_in_vectors, mirrored_block}
use Rattle.eleos_lanes.proofs.eight.spread.Goals as goal

pub returns : goal.returns
returns c b low =
    let block = c.args.block.now in
    let copies = block ∷ block ∷ block ∷ block ∷ block ∷ block ∷ block ∷ block ∷ [] in
    let own : get_or copies b [] ≡ block =
    below_eight (λ k. get_or copies k [] ≡ block) refl refl refl refl refl refl refl refl b low in
    block_in_vectors c.lay.new.bytes c.to_planes.result b c.lay.ensures.lanes
    ∙ mirrored_block c.to_planes.result copies b c.to_planes.ensures low (ap length own ∙ c.told-block)
    (λ i below. omega (arith, ap (λ xs. get_or xs i 0) own, c.fits-block i))
    ∙ own
