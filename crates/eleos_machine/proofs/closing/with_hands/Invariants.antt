use Rattle.std.proofs.Common.{◌≡◌, ◌≤◌, ◌++◌, vec_capacity}
use Rattle.eleos_machine.specs.Closing.{hands_of}
use Rattle.eleos_machine.proofs.closing.with_hands.Given as goal

-- the hands so far, in the room
abbrev pub invariant-loop-pass : goal.invariant-loop-pass
invariant-loop-pass l =
    (l.hands.items ≡ hands_of l.yielded) × (l.fn.passes.items ≡ l.yielded ++ l.pass-iterator.rest.items) × (vec_capacity l.fn.room ≤ vec_capacity l.hands)
