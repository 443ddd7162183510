use Rattle.eleos_texts.proofs.DigitValues.{digit_at}
use Rattle.eleos_texts.proofs.digits.digit_of.Goals as goal

pub returns : goal.returns
returns c = digit_at c.args.value c.requires
