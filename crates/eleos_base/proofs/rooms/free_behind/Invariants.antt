use Rattle.std.proofs.Common.{◌≡◌, drop}
use Rattle.eleos_base.specs.Rooms.{left_by, free_behind}
use Rattle.eleos_base.proofs.rooms.free_behind.Given as goal

-- what the blocks that are left leave of it is what all leave
abbrev pub invariant-loop-block : goal.invariant-loop-block
invariant-loop-block l = left_by l.enclave (drop l.block-index l.blocks) l.free ≡ free_behind l.plan l.enclave l.blocks
