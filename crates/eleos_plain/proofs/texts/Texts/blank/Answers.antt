use Rattle.eleos_plain.proofs.MapTexts.{texts-blank, blank-is}
use Rattle.eleos_plain.proofs.texts.Texts.blank.Goals as goal

pub invariant_of-result : goal.invariant_of-result
invariant_of-result c = blank-is c.new.result _ c.new.ensures.empty c.in_ok-zero_bytes.ensures

pub returns : goal.returns
returns c = texts-blank c.new.result c.args.count c.new.ensures.empty
