use Rattle.std.proofs.Common.{arith}
use Rattle.eleos_sslab.proofs.SlotSizes.{for_128, for_256, for_32, for_512, for_64, for_more, for_none}
use Rattle.eleos_sslab.proofs.size.SlotSize.of.Goals as goal

pub returns-in-0 : goal.returns-in-0
returns-in-0 c = for_none _ (omega arith)

pub returns-in-1-to-32 : goal.returns-in-1-to-32
returns-in-1-to-32 c = for_32 _ (omega arith) (omega arith)

pub returns-in-33-to-64 : goal.returns-in-33-to-64
returns-in-33-to-64 c = for_64 _ (omega arith) (omega arith)

pub returns-in-65-to-128 : goal.returns-in-65-to-128
returns-in-65-to-128 c = for_128 _ (omega arith) (omega arith)

pub returns-in-129-to-256 : goal.returns-in-129-to-256
returns-in-129-to-256 c = for_256 _ (omega arith) (omega arith)

pub returns-in-257-to-512 : goal.returns-in-257-to-512
returns-in-257-to-512 c = for_512 _ (omega arith) (omega arith)

pub returns-in_default : goal.returns-in_default
returns-in_default c = for_more _ (omega arith)
