-- What the program can be asked for.
use Rattle.std.specs.Prelude.{◌≤◌}
use Rattle.ring_bench.specs.declared.order.Order.{Order}

-- there are callers and bytes, and no more than there may be
pub record IsGood (o : Order) : Type 0 where
  pub some : 1 ≤ o.callers
  pub few : o.callers ≤ 4
  pub short : o.bytes ≤ 1024
