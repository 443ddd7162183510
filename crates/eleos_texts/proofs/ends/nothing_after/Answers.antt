use Rattle.std.proofs.Common.{sym, ◌∙◌}
use Rattle.eleos_texts.proofs.Ended.{ended-empty_text, ended-more_text}
use Rattle.eleos_texts.proofs.ends.nothing_after.Goals as goal

pub returns-then-is_empty : goal.returns-then-is_empty
returns-then-is_empty c = ended-empty_text c.args.line c.args.after.now (sym c.is_empty.ensures ∙ c.if-is_empty.true)

pub returns-else-is_empty : goal.returns-else-is_empty
returns-else-is_empty c = ended-more_text c.args.line c.args.after.now (sym c.is_empty.ensures ∙ c.if-is_empty.false)
