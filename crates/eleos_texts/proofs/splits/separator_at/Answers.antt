use Rattle.std.proofs.Common.{◌==◌}
use Rattle.eleos_texts.proofs.Texts.{position_is}
use Rattle.eleos_texts.proofs.splits.separator_at.Goals as goal

pub returns : goal.returns
returns c = position_is (λ k. k == c.args.separator) c.args.text.now c.memchr.result c.memchr.ensures
