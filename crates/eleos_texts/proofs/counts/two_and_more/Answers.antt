use Rattle.std.proofs.Common.{arith, map}
use Rattle.std.proofs.lemmas.List.{length-map}
use Rattle.eleos_texts.proofs.Others.{two_and_more-other}
use Rattle.eleos_texts.proofs.counts.two_and_more.Goals as goal

pub returns-in_default : goal.returns-in_default
returns-in_default c = rw c.refused.ensures (two_and_more-other (map (λ word. word.now) c.args.words.now) (simp length-map (omega arith)))
