use Rattle.std.proofs.Common.{sym, ◌∙◌, ◌+◌}
use Rattle.std.proofs.lemmas.Result.{err_from_is_err_and}
use Rattle.eleos_kvwire.proofs.Steps.{start_not_bad, reads_header, bad_header}
use Rattle.eleos_kvwire.proofs.reader.Reader.end_header.Goals as goal

pub returns-in_err-at_line-clause-goes_on : goal.returns-in_err-at_line-clause-goes_on
returns-in_err-at_line-clause-goes_on c = λ rest.
    let p = err_from_is_err_and c.from_residual.result c.from_residual.ensures.1 in
    let given = rw c.deref.ensures.value at c.read-read.ensures in
    rw (p.1, p.2, c.requires.stage) (bad_header c.args.self.now.header c.args.self.now.line c.args.self.now.commands.items c.args.self.now.held.items rest
    c.read-read.result c.args.due (λ _. c.read-read.new.self) given c.in_err-at_line.field-0.0 _ (sym c.at_line.ensures ∙ c.in_err-at_line.was))

pub returns-clause-goes_on : goal.returns-clause-goes_on
returns-clause-goes_on c = λ rest.
    let given = rw c.deref.ensures.value at c.read-read.ensures in
    rw (c.requires.stage, c.turn.ensures.text, c.next.ensures)
    (reads_header c.args.self.now.header c.args.self.now.line c.args.self.now.commands.items c.args.self.now.held.items rest
    c.read-read.result c.args.due (λ _. c.read-read.new.self) given c.in_ok-at_line.field-0 (sym c.at_line.ensures ∙ c.in_ok-at_line.was))

pub returns-clause-not_bad : goal.returns-clause-not_bad
returns-clause-not_bad c = rw c.turn.ensures.text (start_not_bad c.read-read.new.self (c.args.self.now.line + 1) c.args.self.now.commands.items c.next.result)
