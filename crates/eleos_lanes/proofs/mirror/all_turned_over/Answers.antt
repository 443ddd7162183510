use Rattle.std.proofs.Common.{◌≡◌, [], ◌∷◌}
use Rattle.eleos_lanes.specs.Planes.{lane_of, plane_bit}
use Rattle.eleos_lanes.proofs.Bits.{below_eight}
use Rattle.eleos_lanes.proofs.mirror.all_turned_over.Goals as goal

pub returns : goal.returns
returns c b k i low_b low_k below =
    let r =
    c.turned_over.result ∷ c.turned_over-2.result ∷ c.turned_over-3.result ∷ c.turned_over-4.result ∷ c.turned_over-5.result ∷ c.turned_over-6.result ∷ c.turned_over-7.result ∷ c.turned_over-8.result ∷ [] in
    below_eight (λ k. plane_bit r b i k ≡ plane_bit c.args.v b (lane_of i) k)
    (c.turned_over.ensures i b below)
    (c.turned_over-2.ensures i b below)
    (c.turned_over-3.ensures i b below)
    (c.turned_over-4.ensures i b below)
    (c.turned_over-5.ensures i b below)
    (c.turned_over-6.ensures i b below)
    (c.turned_over-7.ensures i b below)
    (c.turned_over-8.ensures i b below) k low_k
