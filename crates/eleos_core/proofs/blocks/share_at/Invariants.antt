use Rattle.std.proofs.Common.{◌≡◌, map, take, drop, ◌++◌}
use Rattle.eleos_base.specs.Plain.{shared_at}
use Rattle.eleos_core.proofs.blocks.share_at.Given as goal

-- the blocks so far are shared where they start there, the others are as they were
abbrev pub invariant-loop-block : goal.invariant-loop-block
invariant-loop-block l = l.blocks ≡ map (shared_at 1024 l.enclave l.at) (take l.block-index l.fn.blocks) ++ drop l.block-index l.fn.blocks
