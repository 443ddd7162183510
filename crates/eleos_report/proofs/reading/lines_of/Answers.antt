use Rattle.std.proofs.Common.{sym, ◌∙◌, arith}
use Rattle.std.proofs.lemmas.Result.{err_from_is_err_and}
use Rattle.eleos_report.proofs.Loop.{at_cut, at_end, at_more, at_bad, at_line, read_ok}
use Rattle.eleos_report.proofs.reading.lines_of.Goals as goal

pub returns-in_err-line : goal.returns-in_err-line
returns-in_err-line c =
    let p = err_from_is_err_and c.from_residual-in_err-line.result c.from_residual-in_err-line.ensures.1 in
    let given = rw (c.deref.ensures.value, c.in_ok-words.ensures) at c.line_of.ensures in
    rw (p.1, p.2) (at_bad c.args.kind c.loop-front.number c.loop-front.lines.items c.loop-front.rest.now _ c.loop-front.invariant.whole
    c.in-Some.front.now c.in-Some.after.now c.in-Some.ensures.parts c.in_err-line.field-0.0 c.line_of.result given (sym c.at_line.ensures ∙ c.in_err-line.was))

pub returns-in_err-nothing_after : goal.returns-in_err-nothing_after
returns-in_err-nothing_after c =
    let p = err_from_is_err_and c.from_residual-in_err-nothing_after.result c.from_residual-in_err-nothing_after.ensures.1 in
    let given = rw (c.deref.ensures.value, c.in_ok-words.ensures) at c.line_of.ensures in
    let is = read_ok c.loop-front.number c.line_of.result _ c.in_ok-line.line (sym c.at_line.ensures ∙ c.in_ok-line.was) given in
    rw (p.1, p.2) (at_more c.args.kind c.loop-front.number c.loop-front.lines.items c.loop-front.rest.now _ c.loop-front.invariant.whole
    c.in-Some.front.now c.in-Some.after.now c.in-Some.ensures.parts c.in_err-nothing_after.field-0.0 c.in_ok-line.line (sym c.is_last-last.ensures ∙ c.if-last.true) is c.in_err-nothing_after.ensures)

pub returns-then-last : goal.returns-then-last
returns-then-last c =
    let given = rw (c.deref.ensures.value, c.in_ok-words.ensures) at c.line_of.ensures in
    let is = read_ok c.loop-front.number c.line_of.result _ c.in_ok-line.line (sym c.at_line.ensures ∙ c.in_ok-line.was) given in
    rw c.in_ok-push.ensures.items (at_end c.args.kind c.loop-front.number c.loop-front.lines.items c.loop-front.rest.now _ c.loop-front.invariant.whole
    c.in-Some.front.now c.in-Some.after.now c.in-Some.ensures.parts c.in_ok-line.line (sym c.is_last-last.ensures ∙ c.if-last.true) is c.in_ok-nothing_after.ensures)

pub loop-front-preserved : goal.loop-front-preserved
loop-front-preserved c =
    let given = rw (c.deref.ensures.value, c.in_ok-words.ensures) at c.line_of.ensures in
    let is = read_ok c.loop-front.number c.line_of.result _ c.in_ok-line.line (sym c.at_line.ensures ∙ c.in_ok-line.was) given in
    let shorter = c.in-Some.ensures.shorter in
    record {
      number = omega arith;
      whole = rw c.in_ok-push.ensures.items (at_line c.args.kind c.loop-front.number c.loop-front.lines.items c.loop-front.rest.now _ c.loop-front.invariant.whole
          c.in-Some.front.now c.in-Some.after.now c.in-Some.ensures.parts c.in_ok-line.line (sym c.is_last-last.ensures ∙ c.if-last.false) is);
    }

pub returns : goal.returns
returns c = at_cut c.args.kind c.loop-front.number c.loop-front.lines.items c.loop-front.rest.now _ c.loop-front.invariant.whole c.in_default.ensures.parts
