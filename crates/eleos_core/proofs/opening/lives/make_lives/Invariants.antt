use Rattle.std.proofs.Common.{◌≡◌, [], map}
use Rattle.std.specs.List.{range_with_len}
use Rattle.eleos_core.specs.State.{live}
use Rattle.eleos_core.proofs.opening.lives.make_lives.Given as goal

-- the live blocks of the enclaves so far
abbrev pub invariant-loop-enclave : goal.invariant-loop-enclave
invariant-loop-enclave l = l.cells.items ≡ map (live l.plan []) (range_with_len 0 l.enclave)
