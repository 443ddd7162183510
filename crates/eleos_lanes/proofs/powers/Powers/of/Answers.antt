use Rattle.std.proofs.Common.{ap, ap₂, ◌∙◌, arith}
use Rattle.eleos_base.specs.BlockField.{number_of, product}
use Rattle.eleos_lanes.proofs.Values.{number-block}
use Rattle.eleos_lanes.proofs.PowerLemmas.{powers_from}
use Rattle.eleos_lanes.proofs.powers.Powers.of.Goals as goal

pub invariant_of-result : goal.invariant_of-result
invariant_of-result c =
    let h = c.args.h in
    let square = c.product-square.ensures ∙ ap₂ product (ap number_of c.lanes.ensures ∙ number-block h (omega arith)) c.of-first.ensures in
    let cube =
    c.product-cube.ensures
    ∙ ap₂ product (ap number_of c.lanes-2.ensures ∙ number-block c.product-square.result (omega arith)) c.of-first.ensures in
    let fourth =
    c.product-fourth.ensures
    ∙ ap₂ product (ap number_of c.lanes-3.ensures ∙ number-block c.product-cube.result (omega arith)) c.of-first.ensures in
    rw (c.of-first.ensures, c.of.ensures, c.of-2.ensures, c.of-3.ensures) (powers_from h _ _ _ (omega arith) square cube fourth)
