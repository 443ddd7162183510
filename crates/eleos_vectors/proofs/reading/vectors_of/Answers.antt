use Rattle.std.proofs.Common.{sym, ◌∙◌, arith}
use Rattle.std.proofs.lemmas.Result.{err_from_is_err_and}
use Rattle.eleos_texts.proofs.Answers.{read_ok}
use Rattle.eleos_vectors.proofs.Lines.{at_cut, at_end, at_more, at_bad, at_vector}
use Rattle.eleos_vectors.proofs.reading.vectors_of.Goals as goal

pub returns-in_err-nothing_after : goal.returns-in_err-nothing_after
returns-in_err-nothing_after c =
    let p = err_from_is_err_and c.from_residual.result c.from_residual.ensures.1 in
    rw (p.1, p.2) (at_more c.loop-front.line c.loop-front.vectors.items c.loop-front.rest.now _ c.loop-front.invariant.whole
    c.in-Some.front.now c.in-Some.after.now c.in-Some.ensures.parts c.in_err-nothing_after.field-0.0 (sym c.is_end.ensures ∙ c.if-is_end.true) c.in_err-nothing_after.ensures)

pub returns-then-is_end : goal.returns-then-is_end
returns-then-is_end c = at_end c.loop-front.line c.loop-front.vectors.items c.loop-front.rest.now _ c.loop-front.invariant.whole
    c.in-Some.front.now c.in-Some.after.now c.in-Some.ensures.parts (sym c.is_end.ensures ∙ c.if-is_end.true) c.in_ok-nothing_after.ensures

pub returns-in_err-vector : goal.returns-in_err-vector
returns-in_err-vector c =
    let p = err_from_is_err_and c.from_residual-in_err-vector.result c.from_residual-in_err-vector.ensures.1 in
    let given = rw (c.deref.ensures.value, c.in_ok-words.ensures) at c.vector_of.ensures in
    rw (p.1, p.2) (at_bad c.loop-front.line c.loop-front.vectors.items c.loop-front.rest.now _ c.loop-front.invariant.whole
    c.in-Some.front.now c.in-Some.after.now c.in-Some.ensures.parts c.in_err-vector.field-0.0 c.vector_of.result (sym c.is_end.ensures ∙ c.if-is_end.false) given (sym c.at_line.ensures ∙ c.in_err-vector.was))

pub loop-front-preserved : goal.loop-front-preserved
loop-front-preserved c =
    let given = rw (c.deref.ensures.value, c.in_ok-words.ensures) at c.vector_of.ensures in
    let is = read_ok (λ vector. vector) c.loop-front.line c.vector_of.result _ c.in_ok-vector.vector (sym c.at_line.ensures ∙ c.in_ok-vector.was) given in
    let shorter = c.in-Some.ensures.shorter in
    record {
      count = omega arith;
      whole = rw c.in_ok-push.ensures.items (at_vector c.loop-front.line c.loop-front.vectors.items c.loop-front.rest.now _ c.loop-front.invariant.whole
          c.in-Some.front.now c.in-Some.after.now c.in-Some.ensures.parts c.in_ok-vector.vector (sym c.is_end.ensures ∙ c.if-is_end.false) is);
    }

pub returns : goal.returns
returns c = at_cut c.loop-front.line c.loop-front.vectors.items c.loop-front.rest.now _ c.loop-front.invariant.whole c.in_default.ensures.parts
