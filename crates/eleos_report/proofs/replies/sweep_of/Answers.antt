use Rattle.std.proofs.Common.{arith}
use Rattle.std.proofs.lemmas.Result.{err_from_is_err_and}
use Rattle.eleos_report.proofs.Sweeps.{sweep_bad_at}
use Rattle.eleos_report.proofs.replies.sweep_of.Goals as goal

pub returns-in_err-looked : goal.returns-in_err-looked
returns-in_err-looked c =
    let p = err_from_is_err_and c.from_residual.result c.from_residual.ensures.1 in
    rw (p.1, p.2) (sweep_bad_at c.loop-text.sweep.items _ c.args.texts.now c.loop-text.text-index _ c.in_err-looked.field-0.0 (omega arith) c.loop-text.invariant c.in_err-looked.ensures)
