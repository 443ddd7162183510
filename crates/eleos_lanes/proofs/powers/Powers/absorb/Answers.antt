use Rattle.std.proofs.Common.{◌<◌, bit_xor, ap, ◌∙◌, arith}
use Rattle.std.proofs.lemmas.Simd.{Each1-from_get_or}
use Rattle.std.specs.Simd.Lanes.{zip2}
use Rattle.eleos_base.specs.BlockField.{number_of, product}
use Rattle.eleos_lanes.proofs.Values.{number-xor}
use Rattle.eleos_lanes.proofs.powers.Powers.absorb.Goals as goal

pub returns-clause-fits : goal.returns-clause-fits
returns-clause-fits c = rw (← c.self.view_is) c.self.invariant.below

pub returns-clause-hash : goal.returns-clause-hash
returns-clause-hash c =
    let block = c.args.block.now in
    let fits = Each1-from_get_or (λ b. b < 256) block 0 (λ i low. c.fits-block i) in
    rw (← c.self.view_is)
    (c.product.ensures
    ∙ ap (λ n. product n c.self.inside.first)
    (ap (λ xs. number_of (zip2 bit_xor block xs)) c.lanes.ensures
    ∙ number-xor block c.args.sum c.told-block fits (omega arith)))
