use Rattle.std.proofs.Common.{arith, ◌-◌}
use Rattle.eleos_aes.proofs.Tables.{power_at}
use Rattle.eleos_aes.proofs.words.round_constant.Goals as goal

pub returns : goal.returns
returns c = rw (power_at (c.args.j - 1) (omega arith))
