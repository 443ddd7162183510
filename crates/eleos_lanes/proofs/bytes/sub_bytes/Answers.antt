use Rattle.std.proofs.Common.{◌≡◌, ◌+◌, ◌-◌, ◌∙◌, arith}
use Rattle.eleos_base.specs.SBox.{s_box}
use Rattle.eleos_lanes.proofs.Parts.{part_done}
use Rattle.eleos_lanes.proofs.bytes.sub_bytes.Goals as goal

pub loop-at-preserved : goal.loop-at-preserved
loop-at-preserved c =
    let i = c.loop-at.invariant in
    let k = c.min.result in
    let at = c.loop-at.at in
    let width : k + at - at ≡ k = omega arith in
    let is = rw width at c.sub_part.ensures in
    let done = part_done s_box c.args.bytes.now c.loop-at.bytes c.sub_part.new.part at k (omega (arith, i.0, c.min.ensures)) is i.2 i.3 in
    rw width (done.0 ∙ i.0, omega (arith, c.min.ensures), done.1, done.2)
