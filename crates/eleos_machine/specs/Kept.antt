-- What a pass keeps beside its hand.
use Rattle.std.specs.Prelude.{vec_capacity, ◌≡◌, ◌≤◌, []}
use Rattle.eleos_core.specs.Parts.{Part, Stamp}
use Rattle.eleos_plot.specs.declared.plot.Ground.{Ground}
use Rattle.eleos_plot.specs.Terms.{core_terms}
use Rattle.eleos_turn.specs.Hands.{HandState, entries}
use Rattle.eleos_machine.specs.declared.pass.Local.{Local}
use Rattle.eleos_machine.specs.Machines.{IsMachine, all_passes, plan_at}
use Rattle.eleos_machine.specs.Passes.{PassState, last_stamp}

-- the pass of this hand with what stands beside it
abbrev pub pass_with : HandState Stamp Part Ground → Local → PassState
pass_with hand kept = record { hand = hand; draft = kept.draft; sweep = kept.notes; pointers = kept.pointers }

-- a machine's pass keeps the place of the hand's last entry, and free room for the hands of all passes
abbrev pub IsKept : HandState Stamp Part Ground → Local → Type 0
IsKept hand kept = IsMachine hand.home × (kept.last ≡ last_stamp (entries core_terms hand)) × (kept.room.items ≡ []) × (all_passes (plan_at hand.home) ≤ vec_capacity kept.room)
