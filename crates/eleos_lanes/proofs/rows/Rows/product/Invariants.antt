use Rattle.std.proofs.Common.{◌-◌, ◌^◌, ◌<◌}
use Rattle.eleos_lanes.proofs.RowSums.{rows_from}
use Rattle.eleos_lanes.proofs.Sums.{IsSum}
use Rattle.eleos_lanes.proofs.rows.Rows.product.Given as goal

abbrev pub invariant-loop-j : goal.invariant-loop-j
invariant-loop-j l = IsSum (rows_from l.self (16 - l.j) l.x) l.front l.back l.j × (0 < l.j → l.self < 2 ^ 128)
