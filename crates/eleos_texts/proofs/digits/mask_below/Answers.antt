use Rattle.std.proofs.Common.{arith}
use Rattle.eleos_texts.proofs.DigitValues.{mask_by_bits}
use Rattle.eleos_texts.proofs.digits.mask_below.Goals as goal

pub returns : goal.returns
returns c = mask_by_bits c.args.number c.args.limit (omega arith) (omega arith)
