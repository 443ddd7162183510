use Rattle.std.proofs.Common.{ap, bit_xor}
use Rattle.std.specs.Simd.Lanes.{zip2}
use Rattle.eleos_lanes.proofs.Sums.{moved_lanes, lanes_behind}
use Rattle.eleos_lanes.proofs.rows.step.Goals as goal

pub returns-clause-front : goal.returns-clause-front
returns-clause-front c = ap (λ xs. zip2 bit_xor xs c.args.row) (moved_lanes c.args.front c.fits-front.0)

pub returns-clause-back : goal.returns-clause-back
returns-clause-back c = lanes_behind c.args.front c.args.back c.fits-front.0 c.fits-back.0
