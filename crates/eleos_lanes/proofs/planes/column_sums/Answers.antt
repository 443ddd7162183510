use Rattle.std.proofs.Common.{◌≡◌, ◌<◌, refl, ap₂, ◌∙◌, arith}
use Rattle.eleos_lanes.specs.Planes.{differ, turned}
use Rattle.eleos_lanes.proofs.planes.column_sums.Goals as goal

pub returns-clause-pair : goal.returns-clause-pair
returns-clause-pair c i j below =
    c.xor-pair.ensures i j below ∙ ap₂ differ refl (c.next_row-next.ensures i j below)

pub returns-clause-others : goal.returns-clause-others
returns-clause-others c i j below =
    let place : turned (turned i 2) 1 ≡ turned i 3 = omega arith in
    let within : turned i 2 < 16 = omega arith in
    let third = c.next_row-next.ensures (turned i 2) j within in
    let sum = c.xor-pair.ensures (turned i 2) j within ∙ ap₂ differ refl third in
    c.xor.ensures i j below
    ∙ ap₂ differ (c.next_row-next.ensures i j below)
    (c.second_row.ensures i j below ∙ (rw place at sum))
