use Rattle.std.proofs.Common.{◌≡◌, ◌*◌, length, bit_xor, ap, ap₂, sym, ◌∙◌, arith}
use Rattle.eleos_base.specs.BlockField.{times_power_of_x}
use Rattle.eleos_lanes.specs.Rows.{value}
use Rattle.eleos_lanes.proofs.Values.{value-append}
use Rattle.eleos_lanes.proofs.rows.reduced.Goals as goal

pub returns : goal.returns
returns c =
    let size : 128 ≡ 8 * length c.args.front = omega (arith, c.number.ensures.long) in
    c.remainder.ensures
    ∙ ap₂ bit_xor c.number.ensures.value
    (ap (times_power_of_x 128) c.number-2.ensures.value ∙ ap (λ n. times_power_of_x n (value c.args.back)) size)
    ∙ sym (value-append c.args.front c.args.back)
