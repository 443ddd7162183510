use Rattle.std.proofs.Common.{bit_xor, ap, arith}
use Rattle.eleos_lanes.proofs.Remainders.{spread_folded}
use Rattle.eleos_lanes.proofs.field.remainder.Goals as goal

pub returns : goal.returns
returns c = ap (bit_xor c.args.high) (spread_folded c.args.low (omega arith))
