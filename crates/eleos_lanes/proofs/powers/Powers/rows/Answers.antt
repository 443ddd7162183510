use Rattle.std.proofs.Common.{bit_xor, ap, ap₂, sym, ◌∙◌}
use Rattle.std.specs.Simd.Lanes.{zip2}
use Rattle.eleos_lanes.specs.Rows.{row}
use Rattle.eleos_lanes.proofs.PowerLemmas.{power_1}
use Rattle.eleos_lanes.proofs.powers.Powers.rows.Goals as goal

pub returns-clause-fits : goal.returns-clause-fits
returns-clause-fits c = rw (← c.self.view_is) c.self.invariant.below

pub returns-clause-row : goal.returns-clause-row
returns-clause-row c =
    let is = c.self.invariant in
    let j = c.args.j in
    rw (← c.self.view_is)
    (ap₂ (zip2 bit_xor)
    (ap₂ (zip2 bit_xor) (c.row.ensures.row ∙ ap (λ h. row h j c.args.a) is.is_fourth) (c.row-2.ensures.row ∙ ap (λ h. row h j c.args.b) is.is_third))
    (ap₂ (zip2 bit_xor) (c.row-3.ensures.row ∙ ap (λ h. row h j c.args.c) is.is_second)
    (c.row-4.ensures.row ∙ ap (λ h. row h j c.args.d) (sym (power_1 _ is.below)))))
