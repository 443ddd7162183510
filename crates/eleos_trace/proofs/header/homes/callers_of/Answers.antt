use Rattle.std.proofs.Common.{sym, ◌∙◌, arith, codes}
use Rattle.std.proofs.lemmas.Result.{err_from_is_err_and}
use Rattle.std.proofs.lemmas.List.{length_push}
use Rattle.std.specs.List.{slice_split}
use Rattle.eleos_texts.specs.Fields.{is_newline}
use Rattle.eleos_trace.specs.Homes.{caller_line}
use Rattle.eleos_trace.specs.WholeHeader.{is_one_of}
use Rattle.eleos_trace.proofs.Good.{caller_ok}
use Rattle.eleos_texts.proofs.Answers.{read_ok}
use Rattle.eleos_trace.proofs.Items.{at_cut, at_stop, at_bad, at_item}
use Rattle.eleos_trace.proofs.header.homes.callers_of.Goals as goal

pub returns-in_err-words-clause-given : goal.returns-in_err-words-clause-given
returns-in_err-words-clause-given c =
    let p = err_from_is_err_and c.from_residual.result c.from_residual.ensures.1 in
    rw (p.1, p.2) (at_cut (is_one_of (codes "caller")) (caller_line c.args.enclaves.now) c.loop-callers.line c.loop-callers.callers.items (slice_split is_newline c.loop-callers.rest.now) _ c.loop-callers.invariant.whole
    c.in_err-words.field-0.0 c.in_err-words.ensures.given)

pub returns-then-not-is_one_of-clause-given : goal.returns-then-not-is_one_of-clause-given
returns-then-not-is_one_of-clause-given c =
    let stops = rw (c.deref.ensures.value, c.deref-in-loop-callers.ensures.value) at (sym c.is_one_of.ensures ∙ c.if-not-is_one_of.true) in
    at_stop (is_one_of (codes "caller")) (caller_line c.args.enclaves.now) c.loop-callers.line c.loop-callers.callers.items (slice_split is_newline c.loop-callers.rest.now) _ c.loop-callers.invariant.whole
    _ _ c.in_ok-words.ensures.given stops

pub returns-in_err-caller-clause-given : goal.returns-in_err-caller-clause-given
returns-in_err-caller-clause-given c =
    let p = err_from_is_err_and c.from_residual-in_err-caller.result c.from_residual-in_err-caller.ensures.1 in
    let goes = rw (c.deref.ensures.value, c.deref-in-loop-callers.ensures.value) at (sym c.is_one_of.ensures ∙ c.if-not-is_one_of.false) in
    let given = rw (c.deref-in-loop-callers-2.ensures.value, c.deref-in-loop-callers-3.ensures.value) at c.caller_line.ensures in
    rw (p.1, p.2) (at_bad (is_one_of (codes "caller")) (caller_line c.args.enclaves.now) c.loop-callers.line c.loop-callers.callers.items (slice_split is_newline c.loop-callers.rest.now) _ c.loop-callers.invariant.whole
    _ _ c.in_ok-words.ensures.given (λ x. x) c.in_err-caller.field-0.0 c.caller_line.result goes given (sym c.at_line.ensures ∙ c.in_err-caller.was))

pub loop-callers-preserved : goal.loop-callers-preserved
loop-callers-preserved c =
    let goes = rw (c.deref.ensures.value, c.deref-in-loop-callers.ensures.value) at (sym c.is_one_of.ensures ∙ c.if-not-is_one_of.false) in
    let given = rw (c.deref-in-loop-callers-2.ensures.value, c.deref-in-loop-callers-3.ensures.value) at c.caller_line.ensures in
    let is = read_ok (λ x. x) c.loop-callers.line c.caller_line.result _ c.in_ok-caller.caller (sym c.at_line.ensures ∙ c.in_ok-caller.was) given in
    let shorter = c.in_ok-words.ensures.shorter in
    rw c.in_ok-push.ensures.items (record {
      line = rw (length_push c.loop-callers.callers.items c.in_ok-caller.caller) (omega arith);
      good = caller_ok c.args.enclaves.now c.loop-callers.callers.items _ c.in_ok-caller.caller is c.loop-callers.invariant.good;
      left = omega arith;
      whole = at_item (is_one_of (codes "caller")) (caller_line c.args.enclaves.now) c.loop-callers.line c.loop-callers.callers.items (slice_split is_newline c.loop-callers.rest.now) _ c.loop-callers.invariant.whole
          _ _ c.in_ok-words.ensures.given c.in_ok-caller.caller goes is;
    })
