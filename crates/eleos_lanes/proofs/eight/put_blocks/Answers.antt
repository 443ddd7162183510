use Rattle.std.proofs.Common.{◌≡◌, ◌*◌, [], length, drop, get_or, ap, sym, ◌∙◌, arith, length-take, length-drop}
use Rattle.eleos_lanes.proofs.Mirrors.{mirrored_block}
use Rattle.eleos_lanes.proofs.eight.put_blocks.Goals as goal

pub returns : goal.returns
returns c b low =
    let row = c.lay.ensures.lanes b low in
    let new = c.lay.new.bytes in
    let long : length (get_or c.from_planes.result b []) ≡ 16 =
    omega (arith, ap length row, length-take 16 (drop (16 * b) new), length-drop (16 * b) new) in
    row
    ∙ sym
    (mirrored_block c.args.planes c.from_planes.result b c.from_planes.ensures low long
    (λ i below. c.lay.ensures.fit b i low))
