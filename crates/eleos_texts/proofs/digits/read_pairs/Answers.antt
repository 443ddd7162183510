use Rattle.std.proofs.Common.{arith}
use Rattle.eleos_texts.proofs.HexPairs.{read_next, read_done}
use Rattle.eleos_texts.proofs.digits.read_pairs.Goals as goal

pub loop-i-preserved : goal.loop-i-preserved
loop-i-preserved c = rw (c.value_of-high.ensures, c.value_of-low.ensures) (read_next c.args.text.now c.loop-i.bytes c.loop-i.any c.loop-i.i (omega arith) (omega arith) c.loop-i.invariant)

pub returns : goal.returns
returns c = read_done c.args.text.now c.loop-i.bytes c.loop-i.any c.loop-i.i (omega arith) (omega arith) c.loop-i.invariant
