use Rattle.std.proofs.Common.{◌≡◌, ◌++◌, map}
use Rattle.eleos_machine.specs.Closing.{hands_of}
use Rattle.eleos_machine.specs.Passes.{new_pass}
use Rattle.eleos_machine.proofs.making.passes_of.Given as goal

-- a pass for each hand so far
abbrev pub invariant-loop-hand : goal.invariant-loop-hand
invariant-loop-hand l = (hands_of l.passes.items ≡ l.yielded) × (l.passes.items ≡ map new_pass (hands_of l.passes.items)) × (l.fn.hands.items ≡ l.yielded ++ l.hand-iterator.rest.items)
