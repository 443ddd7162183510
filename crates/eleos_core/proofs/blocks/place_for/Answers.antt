use Rattle.std.proofs.Common.{nat_lt}
use Rattle.eleos_core.proofs.FreeRuns.{unwrap-position}
use Rattle.eleos_core.proofs.blocks.place_for.Goals as goal

pub returns-clause-place : goal.returns-clause-place
returns-clause-place c = rw (c.unwrap_or.ensures, c.first_above.ensures) (unwrap-position (λ other. nat_lt c.args.block.start other.start) c.args.blocks.now)
