use Rattle.std.proofs.Common.{sym, ◌∙◌}
use Rattle.eleos_kvwire.proofs.Ends.{cut_at, whole_at}
use Rattle.eleos_kvwire.proofs.reader.Reader.finish.Goals as goal

pub returns-then-not-is_ended : goal.returns-then-not-is_ended
returns-then-not-is_ended c = λ good.
    rw (c.bad.ensures) (cut_at c.args.self.held.items c.args.self.header c.args.self.line c.args.self.commands.items c.args.self.stage (sym c.is_ended.ensures ∙ c.if-not-is_ended.true) good)

pub returns : goal.returns
returns c = λ good.
    rw (c.in_ok-plan.ensures, c.of.ensures) (whole_at c.args.self.held.items c.args.self.header c.args.self.line c.args.self.commands.items c.args.self.stage (sym c.is_ended.ensures ∙ c.if-not-is_ended.false))
