use Rattle.std.proofs.Common.{arith}
use Rattle.eleos_top.proofs.Inputs.{Appends-line, Appends-front}
use Rattle.eleos_top.proofs.streams.put_lines.Goals as goal

pub returns-in_err-put_all-clause-front : goal.returns-in_err-put_all-clause-front
returns-in_err-put_all-clause-front g c = Appends-front _ _ _ c.args.text.now c.loop-done.done _ c.put_all.ensures.front.0 c.loop-done.invariant.front c.put_all.ensures.front.1

pub loop-done-preserved : goal.loop-done-preserved
loop-done-preserved g c = record {
  within = c.line_end-end.ensures.within;
  front = Appends-line _ _ _ c.args.text.now c.loop-done.done c.line_end-end.result (omega arith) c.loop-done.invariant.front c.in_ok-put_all.ensures.all;
  faults = omega (arith, c.loop-done.invariant.faults, c.put_all.ensures.later);
}
