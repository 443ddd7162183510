use Rattle.std.proofs.Common.{◌++◌, ◌∷◌, []}
use Rattle.eleos_kvwire.proofs.Steps.{keeps_line, line_not_bad, no_newline}
use Rattle.eleos_kvwire.proofs.reader.Reader.read_line.Goals as goal

pub returns-then-byte-ne10-clause-goes_on : goal.returns-then-byte-ne10-clause-goes_on
returns-then-byte-ne10-clause-goes_on c = λ rest.
    rw c.in_ok-push.ensures.items (keeps_line c.args.self.now.header c.args.self.now.line c.args.self.now.commands.items c.args.self.now.stage c.args.self.now.held.items c.args.byte rest c.requires.stage (no_newline c.args.byte c.if-byte-ne10.true))

pub returns-then-byte-ne10-clause-not_bad : goal.returns-then-byte-ne10-clause-not_bad
returns-then-byte-ne10-clause-not_bad c =
    rw c.in_ok-push.ensures.items (line_not_bad c.args.self.now.header c.args.self.now.line c.args.self.now.commands.items c.args.self.now.stage (c.args.self.now.held.items ++ c.args.byte ∷ []) c.requires.stage)
