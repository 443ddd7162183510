use Rattle.std.proofs.Common.{sym, ◌∙◌, arith, codes}
use Rattle.std.proofs.lemmas.Result.{err_from_is_err_and}
use Rattle.std.proofs.lemmas.List.{length_push}
use Rattle.std.specs.List.{slice_split}
use Rattle.eleos_texts.specs.Fields.{is_newline}
use Rattle.eleos_trace.specs.Homes.{enclave_line}
use Rattle.eleos_trace.specs.WholeHeader.{is_one_of}
use Rattle.eleos_trace.proofs.Good.{enclave_ok}
use Rattle.eleos_texts.proofs.Answers.{read_ok}
use Rattle.eleos_trace.proofs.Items.{at_cut, at_stop, at_bad, at_item}
use Rattle.eleos_trace.proofs.header.homes.enclaves_of.Goals as goal

pub returns-in_err-words-clause-given : goal.returns-in_err-words-clause-given
returns-in_err-words-clause-given c =
    let p = err_from_is_err_and c.from_residual.result c.from_residual.ensures.1 in
    rw (p.1, p.2) (at_cut (is_one_of (codes "enclave")) enclave_line c.loop-enclaves.line c.loop-enclaves.enclaves.items (slice_split is_newline c.loop-enclaves.rest.now) _ c.loop-enclaves.invariant.whole
    c.in_err-words.field-0.0 c.in_err-words.ensures.given)

pub returns-then-not-is_one_of-clause-given : goal.returns-then-not-is_one_of-clause-given
returns-then-not-is_one_of-clause-given c =
    let stops = rw (c.deref.ensures.value, c.deref-in-loop-enclaves.ensures.value) at (sym c.is_one_of.ensures ∙ c.if-not-is_one_of.true) in
    at_stop (is_one_of (codes "enclave")) enclave_line c.loop-enclaves.line c.loop-enclaves.enclaves.items (slice_split is_newline c.loop-enclaves.rest.now) _ c.loop-enclaves.invariant.whole
    _ _ c.in_ok-words.ensures.given stops

pub returns-in_err-enclave-clause-given : goal.returns-in_err-enclave-clause-given
returns-in_err-enclave-clause-given c =
    let p = err_from_is_err_and c.from_residual-in_err-enclave.result c.from_residual-in_err-enclave.ensures.1 in
    let goes = rw (c.deref.ensures.value, c.deref-in-loop-enclaves.ensures.value) at (sym c.is_one_of.ensures ∙ c.if-not-is_one_of.false) in
    let given = rw (c.deref-in-loop-enclaves-2.ensures.value, c.deref-in-loop-enclaves-3.ensures.value) at c.enclave_line.ensures in
    rw (p.1, p.2) (at_bad (is_one_of (codes "enclave")) enclave_line c.loop-enclaves.line c.loop-enclaves.enclaves.items (slice_split is_newline c.loop-enclaves.rest.now) _ c.loop-enclaves.invariant.whole
    _ _ c.in_ok-words.ensures.given (λ x. x) c.in_err-enclave.field-0.0 c.enclave_line.result goes given (sym c.at_line.ensures ∙ c.in_err-enclave.was))

pub loop-enclaves-preserved : goal.loop-enclaves-preserved
loop-enclaves-preserved c =
    let goes = rw (c.deref.ensures.value, c.deref-in-loop-enclaves.ensures.value) at (sym c.is_one_of.ensures ∙ c.if-not-is_one_of.false) in
    let given = rw (c.deref-in-loop-enclaves-2.ensures.value, c.deref-in-loop-enclaves-3.ensures.value) at c.enclave_line.ensures in
    let is = read_ok (λ x. x) c.loop-enclaves.line c.enclave_line.result _ c.in_ok-enclave.enclave (sym c.at_line.ensures ∙ c.in_ok-enclave.was) given in
    let shorter = c.in_ok-words.ensures.shorter in
    rw c.in_ok-push.ensures.items (record {
      line = rw (length_push c.loop-enclaves.enclaves.items c.in_ok-enclave.enclave) (omega arith);
      good = enclave_ok c.loop-enclaves.enclaves.items _ c.in_ok-enclave.enclave is c.loop-enclaves.invariant.good;
      left = omega arith;
      whole = at_item (is_one_of (codes "enclave")) enclave_line c.loop-enclaves.line c.loop-enclaves.enclaves.items (slice_split is_newline c.loop-enclaves.rest.now) _ c.loop-enclaves.invariant.whole
          _ _ c.in_ok-words.ensures.given c.in_ok-enclave.enclave goes is;
    })
