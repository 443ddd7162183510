use Rattle.std.proofs.Common.{◌≡◌, ℕ, ◌<◌, ◌≤◌, false, get_or, length, vec_capacity}
use Rattle.std.specs.Slots.{slots_items, slots_filled, slots_len}
use Rattle.std.specs.Slots.Ownership.{Filled}
use lib.ListN.{get_elem?}
use Rattle.eleos_turn.proofs.table.emptied.Given as goal

abbrev pub invariant-loop-i : goal.invariant-loop-i
invariant-loop-i g l =
    Filled (slots_filled l.closed.slots) l.i (slots_len l.closed.slots) × ((k : ℕ) → k < l.i → get_or (slots_filled l.closed.slots) k false ≡ false) × (slots_items l.closed.slots ≡ slots_items l.initial.closed.slots)
    × (slots_len l.closed.slots ≡ slots_len l.initial.closed.slots) × (length l.room.items ≡ l.i) × ((k : ℕ) → k < l.i → get_elem? l.room.items k ≡ get_elem? (slots_items l.initial.closed.slots) k)
    × (vec_capacity l.initial.room ≤ vec_capacity l.room)
