use Rattle.std.proofs.Common.{◌≡◌, ◌+◌, ◌-◌, ◌%◌, ◌≤◌, length, take, drop, ◌∙◌, arith, length-take, length-drop}
use Rattle.eleos_base.specs.AesState.{mix_columns}
use Rattle.eleos_lanes.proofs.States.{more_mixed, none_mixed}
use Rattle.eleos_lanes.proofs.bytes.mix_columns.Goals as goal

pub loop-at-init : goal.loop-at-init
loop-at-init c = none_mixed mix_columns c.args.states.now

pub loop-at-preserved : goal.loop-at-preserved
loop-at-preserved c =
    let at = c.loop-at.at in
    let k = c.min-size.result in
    let now = c.loop-at.states in
    let mixed = c.loop-at.invariant in
    let width : at + k - at ≡ k = omega arith in
    let fits : at + k ≤ length now = omega (arith, mixed.size, mixed.within, c.min-size.ensures) in
    let size : length (take k (drop at now)) ≡ k = omega (arith, length-take k (drop at now), length-drop at now) in
    let whole : k % 16 ≡ 0 = omega (arith, mixed.whole, c.min-size.ensures, c.requires) in
    let are = rw width at c.mix_part.ensures in
    rw width (more_mixed mix_columns c.args.states.now now c.mix_part.new.part at k fits whole (rw width at c.mix_part.auto.part ∙ size)
    (λ b inside. are b (omega (arith, size))) mixed)

pub returns : goal.returns
returns c b within = c.loop-at.invariant.done b (omega arith)
