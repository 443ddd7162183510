use Rattle.std.proofs.Common.{arith}
use Rattle.eleos_texts.proofs.DigitValues.{value_at}
use Rattle.eleos_texts.proofs.digits.value_of.Goals as goal

pub returns : goal.returns
returns c = rw (c.mask_below-is_decimal.ensures, c.mask_below-is_letter.ensures) (value_at c.args.digit (omega arith))
