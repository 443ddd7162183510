use Rattle.std.proofs.Common.{◌≡◌, map}
use Rattle.std.specs.List.{range_with_len}
use Rattle.eleos_base.specs.Plain.{memory_of, opening}
use Rattle.eleos_plain.proofs.memory.PlainMemory.make.Given as goal

-- the enclaves so far are opened
abbrev pub invariant-loop-enclave : goal.invariant-loop-enclave
invariant-loop-enclave l = l.enclaves.items ≡ map (memory_of (opening l.plan)) (range_with_len 0 l.enclave)
