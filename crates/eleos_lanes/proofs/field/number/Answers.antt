use Rattle.std.proofs.Common.{◌<◌, ◌∙◌, sym, arith, Fits, w8}
use Rattle.std.proofs.lemmas.Simd.{Each1-weaker}
use Rattle.eleos_base.specs.BlockField.{number_of}
use Rattle.eleos_lanes.proofs.Values.{value_of_block}
use Rattle.eleos_lanes.proofs.field.number.Goals as goal

pub returns-clause-is : goal.returns-clause-is
unfolding number_of
returns-clause-is c = c.from_be_bytes.ensures

pub returns-clause-value : goal.returns-clause-value
unfolding number_of
returns-clause-value c =
    c.from_be_bytes.ensures
    ∙ sym (value_of_block c.args.block c.fits-block.0 (Each1-weaker (Fits w8) (λ b. b < 256) (λ b f. omega (arith, f.fits)) c.args.block c.fits-block.1))
