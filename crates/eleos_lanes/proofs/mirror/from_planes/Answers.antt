use Rattle.std.proofs.Common.{sym, ◌∙◌}
use Rattle.eleos_lanes.proofs.mirror.from_planes.Goals as goal

pub returns : goal.returns
returns c b k i low_b low_k below =
    sym (c.all_turned_over.ensures b k i low_b low_k below) ∙ sym (c.mirrored.ensures k b i low_k low_b below)
