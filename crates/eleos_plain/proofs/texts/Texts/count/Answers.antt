use Rattle.eleos_plain.proofs.MapTexts.{length-texts}
use Rattle.eleos_plain.proofs.texts.Texts.count.Goals as goal

pub returns : goal.returns
returns c = rw (← c.self.view_is) (length-texts c.self.inside.written c.self.inside.count)
