use Rattle.std.proofs.Common.{sym, ◌∙◌, ◌+◌, append-nil}
use Rattle.std.proofs.lemmas.Result.{err_from_is_err_and}
use Rattle.eleos_kvwire.specs.declared.stage.Stage.TheVariants as stages
use Rattle.eleos_kvwire.proofs.Steps.{start_not_bad, ends_session, reads_command, bad_command}
use Rattle.eleos_kvwire.proofs.reader.Reader.end_command.Goals as goal

pub returns-then-is_end-clause-goes_on : goal.returns-then-is_end-clause-goes_on
returns-then-is_end-clause-goes_on c = λ rest. rw (c.requires.stage, c.turn.ensures.text) (ends_session c.args.self.now.header c.args.self.now.line c.args.self.now.commands.items
    c.args.self.now.held.items rest (sym (rw c.deref.ensures.value at c.is_end.ensures) ∙ c.if-is_end.true))

pub returns-then-is_end-clause-not_bad : goal.returns-then-is_end-clause-not_bad
returns-then-is_end-clause-not_bad c = rw c.turn.ensures.text (start_not_bad c.args.self.now.header (c.args.self.now.line + 1) c.args.self.now.commands.items stages.End)

pub returns-in_err-command-clause-goes_on : goal.returns-in_err-command-clause-goes_on
returns-in_err-command-clause-goes_on c = λ rest.
    let p = err_from_is_err_and c.from_residual.result c.from_residual.ensures.1 in
    let given = rw (c.deref-2.ensures.value, c.count-before.ensures) at c.command_line-given.ensures in
    let more = sym (rw c.deref.ensures.value at c.is_end.ensures) ∙ c.if-is_end.false in
    rw (p.1, p.2, c.requires.stage) (bad_command c.args.self.now.header c.args.self.now.line c.args.self.now.commands.items c.args.self.now.held.items rest
    c.command_line-given.result (λ x. x) more given c.in_err-command.field-0.0 _ (sym c.at_line.ensures ∙ c.in_err-command.was))

pub returns-in_ok-push-in-Whole-clause-goes_on : goal.returns-in_ok-push-in-Whole-clause-goes_on
returns-in_ok-push-in-Whole-clause-goes_on c = λ rest.
    let given = rw (c.deref-2.ensures.value, c.count-before.ensures) at c.command_line-given.ensures in
    let more = sym (rw c.deref.ensures.value at c.is_end.ensures) ∙ c.if-is_end.false in
    let read = reads_command c.args.self.now.header c.args.self.now.line c.args.self.now.commands.items c.args.self.now.held.items rest
    c.command_line-given.result (λ x. x) more given c.in_ok-command.field-0 (sym c.at_line.ensures ∙ c.in_ok-command.was) in
    rw (c.requires.stage, c.turn-in-Whole.ensures.text, c.in_ok-push-in-Whole.ensures.items) (rw c.in-Whole.is at read)

pub returns-in_ok-push-in-Whole-clause-not_bad : goal.returns-in_ok-push-in-Whole-clause-not_bad
returns-in_ok-push-in-Whole-clause-not_bad c = rw c.turn-in-Whole.ensures.text (start_not_bad c.args.self.now.header (c.args.self.now.line + 1) _ stages.Command)

pub returns-in-Awaits-clause-goes_on : goal.returns-in-Awaits-clause-goes_on
returns-in-Awaits-clause-goes_on c = λ rest.
    let given = rw (c.deref-2.ensures.value, c.count-before.ensures) at c.command_line-given.ensures in
    let more = sym (rw c.deref.ensures.value at c.is_end.ensures) ∙ c.if-is_end.false in
    let read = reads_command c.args.self.now.header c.args.self.now.line c.args.self.now.commands.items c.args.self.now.held.items rest
    c.command_line-given.result (λ x. x) more given c.in_ok-command.field-0 (sym c.at_line.ensures ∙ c.in_ok-command.was) in
    rw (c.requires.stage, c.turn-in-Awaits.ensures.text) (rw (c.in-Awaits.is, append-nil c.args.self.now.commands.items) at read)

pub returns-in-Awaits-clause-not_bad : goal.returns-in-Awaits-clause-not_bad
returns-in-Awaits-clause-not_bad c = rw c.turn-in-Awaits.ensures.text (start_not_bad c.args.self.now.header (c.args.self.now.line + 1) _ (stages.Value c.in-Awaits.set))
