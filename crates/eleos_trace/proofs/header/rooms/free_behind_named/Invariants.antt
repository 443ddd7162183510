use Rattle.std.proofs.Common.{◌≡◌, drop, map}
use Rattle.eleos_base.specs.Rooms.{left_by, free_behind}
use Rattle.eleos_trace.proofs.header.rooms.free_behind_named.Given as goal

-- what the blocks that are left leave of it is what all leave
abbrev pub invariant-loop-named : goal.invariant-loop-named
invariant-loop-named l = left_by l.enclave (map (λ named. named.block) (drop l.named-index l.blocks)) l.free ≡ free_behind l.plan l.enclave (map (λ named. named.block) l.blocks)
