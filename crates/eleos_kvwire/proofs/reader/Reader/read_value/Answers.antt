use Rattle.std.proofs.Common.{◌+◌, ◌<◌, ◌≤◌, ◌++◌, ◌∷◌, [], length, length-append, arith}
use Rattle.eleos_kvwire.specs.declared.stage.Stage.TheVariants as stages
use Rattle.eleos_kvwire.proofs.Steps.{start_not_bad, value_not_bad, value_fits, keeps_value, bad_value, ends_value, no_newline}
use Rattle.eleos_kvwire.proofs.reader.Reader.read_value.Goals as goal

pub returns-then-filled-set-clause-goes_on : goal.returns-then-filled-set-clause-goes_on
returns-then-filled-set-clause-goes_on c = λ good rest.
    let short : length c.args.self.now.held.items < c.in-Value.set.len = omega arith in
    rw (c.in-Value.is, c.in_ok-push.ensures.items) (keeps_value c.args.self.now.header c.args.self.now.line c.args.self.now.commands.items c.in-Value.set c.args.self.now.held.items c.args.byte rest short)

pub returns-then-filled-set-clause-not_bad : goal.returns-then-filled-set-clause-not_bad
returns-then-filled-set-clause-not_bad c =
    let short : length (c.args.self.now.held.items ++ c.args.byte ∷ []) ≤ c.in-Value.set.len = omega (arith, length-append c.args.self.now.held.items (c.args.byte ∷ [])) in
    rw (c.in-Value.is, c.in_ok-push.ensures.items) (value_not_bad c.args.self.now.header c.args.self.now.line c.args.self.now.commands.items c.in-Value.set (c.args.self.now.held.items ++ c.args.byte ∷ []) short)

pub returns-then-byte-ne10-clause-goes_on : goal.returns-then-byte-ne10-clause-goes_on
returns-then-byte-ne10-clause-goes_on c = λ good rest.
    let all : c.in-Value.set.len ≤ length c.args.self.now.held.items = omega arith in
    rw (c.bad.ensures, c.in-Value.is) (bad_value c.args.self.now.header c.args.self.now.line c.args.self.now.commands.items c.in-Value.set c.args.self.now.held.items c.args.byte rest all (no_newline c.args.byte c.if-byte-ne10.true))

pub returns-clause-goes_on : goal.returns-clause-goes_on
returns-clause-goes_on c = λ good rest.
    let all : c.in-Value.set.len ≤ length c.args.self.now.held.items = omega arith in
    let within = value_fits c.args.self.now.header c.args.self.now.line c.args.self.now.commands.items c.in-Value.set c.args.self.now.held.items (rw c.in-Value.is at good) in
    rw (c.in-Value.is, c.if-byte-ne10.false, c.turn.ensures.text, c.in_ok-push-2.ensures.items, c.in_ok-command.ensures, c.deref.ensures.value)
    (ends_value c.args.self.now.header c.args.self.now.line c.args.self.now.commands.items c.in-Value.set c.args.self.now.held.items rest within all)

pub returns-clause-not_bad : goal.returns-clause-not_bad
returns-clause-not_bad c = rw c.turn.ensures.text (start_not_bad c.args.self.now.header (c.args.self.now.line + 1) _ stages.Command)
