use Rattle.std.proofs.Common.{sym, ◌∙◌, arith}
use Rattle.std.proofs.lemmas.Result.{err_from_is_err_and}
use Rattle.std.proofs.lemmas.List.{length_push}
use Rattle.eleos_trace.specs.WholeHeader.{plan_of}
use Rattle.eleos_trace.specs.Kinds.{MayGiveIn}
use Rattle.eleos_trace.proofs.Chosen.{line_ok}
use Rattle.eleos_trace.proofs.Good.{All-push}
use Rattle.eleos_texts.proofs.Answers.{read_ok}
use Rattle.eleos_trace.proofs.Loop.{at_cut, at_end, at_bad, at_command, one_round}
use Rattle.eleos_trace.proofs.reading.commands_of.Goals as goal

pub returns-then-is_end-clause-given : goal.returns-then-is_end-clause-given
returns-then-is_end-clause-given c = at_end c.args.header.now c.loop-front.line c.loop-front.seen c.loop-front.lines.items c.loop-front.rest.now _ c.loop-front.invariant.whole
    c.in-Some.front.now c.in-Some.after.now c.in-Some.ensures.parts (sym c.is_end.ensures ∙ c.if-is_end.true)

pub returns-in_err-command-clause-given : goal.returns-in_err-command-clause-given
returns-in_err-command-clause-given c =
    let p = err_from_is_err_and c.from_residual-in_err-command.result c.from_residual-in_err-command.ensures.1 in
    let given = rw (c.deref.ensures.value, c.in_ok-words.ensures) at c.line_of.ensures in
    rw (p.1, p.2) (at_bad c.args.header.now c.loop-front.line c.loop-front.seen c.loop-front.lines.items c.loop-front.rest.now _ c.loop-front.invariant.whole
    c.in-Some.front.now c.in-Some.after.now c.in-Some.ensures.parts c.in_err-command.field-0.0 c.line_of.result (sym c.is_end.ensures ∙ c.if-is_end.false) given (sym c.at_line.ensures ∙ c.in_err-command.was))

pub loop-front-preserved : goal.loop-front-preserved
loop-front-preserved c =
    let given = rw (c.deref.ensures.value, c.in_ok-words.ensures) at c.line_of.ensures in
    let is = read_ok (λ x. x) c.loop-front.line c.line_of.result _ c.in_ok-command.command (sym c.at_line.ensures ∙ c.in_ok-command.was) given in
    let may = line_ok c.args.header.now c.loop-front.seen _ c.in_ok-command.command is in
    let shorter = c.in-Some.ensures.shorter in
    rw (c.in_ok-push.ensures.items, c.in_ok-add.ensures) (record {
      line = omega arith;
      room = omega (arith, may.room);
      rounds = let step = one_round c.loop-front.seen.rounds c.in_ok-command.command.command in omega (arith, step);
      count = rw (length_push c.loop-front.lines.items c.in_ok-command.command) (omega arith);
      given = All-push (λ line. MayGiveIn c.args.header.now.kind (plan_of c.args.header.now) line.actor line.command) c.loop-front.lines.items c.in_ok-command.command c.loop-front.invariant.given may.may;
      whole = at_command c.args.header.now c.loop-front.line c.loop-front.seen c.loop-front.lines.items c.loop-front.rest.now _ c.loop-front.invariant.whole
          c.in-Some.front.now c.in-Some.after.now c.in-Some.ensures.parts c.in_ok-command.command (sym c.is_end.ensures ∙ c.if-is_end.false) is;
    })

pub returns-clause-given : goal.returns-clause-given
returns-clause-given c = at_cut c.args.header.now c.loop-front.line c.loop-front.seen c.loop-front.lines.items c.loop-front.rest.now _ c.loop-front.invariant.whole c.in_default.ensures.parts
