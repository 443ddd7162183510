use Rattle.eleos_kvwire.proofs.Steps.{bad_end}
use Rattle.eleos_kvwire.proofs.reader.Reader.read.Goals as goal

pub returns-in-End-clause-goes_on : goal.returns-in-End-clause-goes_on
returns-in-End-clause-goes_on c = λ good rest. rw (c.bad.ensures, c.in-End.is) (bad_end c.args.self.now.header c.args.self.now.line c.args.self.now.commands.items c.args.self.now.held.items c.args.byte rest)
