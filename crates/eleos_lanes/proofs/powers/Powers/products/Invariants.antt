use Rattle.std.proofs.Common.{◌-◌, ◌^◌, ◌<◌}
use Rattle.eleos_lanes.proofs.PowerLemmas.{four_from}
use Rattle.eleos_lanes.proofs.Sums.{IsSum}
use Rattle.eleos_lanes.proofs.powers.Powers.products.Given as goal

abbrev pub invariant-loop-j : goal.invariant-loop-j
invariant-loop-j l = IsSum (four_from l.self (16 - l.j) l.a l.b l.c l.d) l.front l.back l.j × (0 < l.j → l.self < 2 ^ 128)
