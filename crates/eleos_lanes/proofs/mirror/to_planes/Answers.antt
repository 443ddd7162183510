use Rattle.std.proofs.Common.{◌≡◌, ap, ◌∙◌, arith}
use Rattle.eleos_lanes.specs.Planes.{lane_of, plane_bit}
use Rattle.eleos_lanes.proofs.mirror.to_planes.Goals as goal

pub returns : goal.returns
returns c b k i low_b low_k below =
    let back : lane_of (lane_of i) ≡ i = omega arith in
    c.all_turned_over.ensures b k (lane_of i) low_b low_k (omega arith)
    ∙ ap (λ l. plane_bit c.mirrored.result b l k) back ∙ c.mirrored.ensures b k i low_b low_k below
