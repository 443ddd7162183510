use Rattle.std.proofs.Common.{ap₂, ◌∙◌, bit_xor}
use Rattle.std.specs.Simd.Lanes.{zip2}
use Rattle.eleos_lanes.proofs.Lookups.{row_of_entries}
use Rattle.eleos_lanes.proofs.rows.Rows.row.Goals as goal

pub returns-clause-fits : goal.returns-clause-fits
returns-clause-fits c = rw (← c.self.view_is) c.self.invariant.fits

pub returns-clause-row : goal.returns-clause-row
returns-clause-row c =
    let is = c.self.invariant in
    let j = c.args.j in
    rw (← c.self.view_is)
    (ap₂ (zip2 bit_xor) c.by_high.ensures c.by_low.ensures
    ∙ row_of_entries c.self.inside.h j _ _ c.args.x c.requires c.fits-x.1
    (λ n low. is.high_rows j n c.requires low) (λ n low. is.low_rows j n c.requires low))
