use Rattle.std.proofs.Common.{ap, ◌∙◌}
use Rattle.eleos_base.specs.AesState.{shift_rows}
use Rattle.eleos_lanes.specs.Planes.{add_block, block_at, vectors}
use Rattle.eleos_lanes.proofs.eight.last_round.Goals as goal

pub returns : goal.returns
returns c b low =
    c.add_planes.ensures b low
    ∙ ap (λ s. add_block s (block_at (vectors c.args.key.now) b))
    (c.shift_planes.ensures b low ∙ ap shift_rows (c.sub_planes.ensures b low))
