use Rattle.std.proofs.Common.{◌+◌, ◌==◌, sym, arith, length, ◌∙◌}
use Rattle.std.proofs.lemmas.Slice.{between_to_end}
use Rattle.eleos_texts.proofs.Texts.{slice_split-whole, slice_split-first}
use Rattle.eleos_texts.proofs.splits.first_part.Goals as goal

pub returns-in_err-end-clause-parts : goal.returns-in_err-end-clause-parts
returns-in_err-end-clause-parts c = rw c.from_residual.ensures (slice_split-whole (λ k. k == c.args.separator) c.args.text.now (sym c.separator_at.ensures ∙ c.in_err-end.was))

pub returns-clause-parts : goal.returns-clause-parts
returns-clause-parts c =
    let first = slice_split-first (λ k. k == c.args.separator) c.args.text.now c.in_ok-end.end (sym c.separator_at.ensures ∙ c.in_ok-end.was) in
    rw (between_to_end c.args.text.now (c.in_ok-end.end + 1) (length c.args.text.now) (omega arith)) first
