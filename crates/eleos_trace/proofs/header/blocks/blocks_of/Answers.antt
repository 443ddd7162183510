use Rattle.std.proofs.Common.{sym, ◌∙◌, arith, codes}
use Rattle.std.proofs.lemmas.Result.{err_from_is_err_and}
use Rattle.std.proofs.lemmas.List.{length_push}
use Rattle.std.specs.List.{slice_split}
use Rattle.eleos_texts.specs.Fields.{is_newline}
use Rattle.eleos_trace.specs.Blocks.{block_line}
use Rattle.eleos_trace.specs.WholeHeader.{begins}
use Rattle.eleos_trace.proofs.Good.{block_ok}
use Rattle.eleos_texts.proofs.Answers.{read_ok}
use Rattle.eleos_trace.proofs.Items.{at_cut, at_stop, at_bad, at_item}
use Rattle.eleos_trace.proofs.header.blocks.blocks_of.Goals as goal

pub returns-in_err-words-clause-given : goal.returns-in_err-words-clause-given
returns-in_err-words-clause-given c =
    let p = err_from_is_err_and c.from_residual.result c.from_residual.ensures.1 in
    rw (p.1, p.2) (at_cut (λ before words. begins (codes "block") words) (block_line c.args.plan.now) c.loop-named.line c.loop-named.named.items (slice_split is_newline c.loop-named.rest.now) _ c.loop-named.invariant.whole
    c.in_err-words.field-0.0 c.in_err-words.ensures.given)

pub returns-then-not-begins-clause-given : goal.returns-then-not-begins-clause-given
returns-then-not-begins-clause-given c =
    let stops = rw c.deref.ensures.value at (sym c.begins.ensures ∙ c.if-not-begins.true) in
    at_stop (λ before words. begins (codes "block") words) (block_line c.args.plan.now) c.loop-named.line c.loop-named.named.items (slice_split is_newline c.loop-named.rest.now) _ c.loop-named.invariant.whole
    _ _ c.in_ok-words.ensures.given stops

pub returns-in_err-block-clause-given : goal.returns-in_err-block-clause-given
returns-in_err-block-clause-given c =
    let p = err_from_is_err_and c.from_residual-in_err-block.result c.from_residual-in_err-block.ensures.1 in
    let goes = rw c.deref.ensures.value at (sym c.begins.ensures ∙ c.if-not-begins.false) in
    let given = rw (c.deref-in-loop-named.ensures.value, c.deref-in-loop-named-2.ensures.value) at c.block_line.ensures in
    rw (p.1, p.2) (at_bad (λ before words. begins (codes "block") words) (block_line c.args.plan.now) c.loop-named.line c.loop-named.named.items (slice_split is_newline c.loop-named.rest.now) _ c.loop-named.invariant.whole
    _ _ c.in_ok-words.ensures.given (λ x. x) c.in_err-block.field-0.0 c.block_line.result goes given (sym c.at_line.ensures ∙ c.in_err-block.was))

pub loop-named-preserved : goal.loop-named-preserved
loop-named-preserved c =
    let goes = rw c.deref.ensures.value at (sym c.begins.ensures ∙ c.if-not-begins.false) in
    let given = rw (c.deref-in-loop-named.ensures.value, c.deref-in-loop-named-2.ensures.value) at c.block_line.ensures in
    let is = read_ok (λ x. x) c.loop-named.line c.block_line.result _ c.in_ok-block.block (sym c.at_line.ensures ∙ c.in_ok-block.was) given in
    let shorter = c.in_ok-words.ensures.shorter in
    rw c.in_ok-push.ensures.items (record {
      line = rw (length_push c.loop-named.named.items c.in_ok-block.block) (omega arith);
      good = block_ok c.args.plan.now c.loop-named.named.items _ c.in_ok-block.block is c.loop-named.invariant.good;
      left = omega arith;
      whole = at_item (λ before words. begins (codes "block") words) (block_line c.args.plan.now) c.loop-named.line c.loop-named.named.items (slice_split is_newline c.loop-named.rest.now) _ c.loop-named.invariant.whole
          _ _ c.in_ok-words.ensures.given c.in_ok-block.block goes is;
    })
