use Rattle.std.proofs.Common.{◌≡◌, ◌-◌, ◌≤◌, length, take, drop, map}
use Rattle.eleos_base.specs.SBox.{s_box}
use Rattle.eleos_lanes.proofs.bytes.sub_bytes.Given as goal

abbrev pub invariant-loop-at : goal.invariant-loop-at
invariant-loop-at l =
    (length l.bytes ≡ l.len) × (l.at ≤ l.len) × (take l.at l.bytes ≡ map s_box (take l.at l.fn.bytes))
    × (drop l.at l.bytes ≡ drop l.at l.fn.bytes)

abbrev pub decreases-loop-at : goal.decreases-loop-at
decreases-loop-at l = l.len - l.at
