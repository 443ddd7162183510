use Rattle.std.proofs.Common.{ℕ, ◌<◌}
use Rattle.eleos_sslab.specs.Blocks.{HasObject}
use Rattle.eleos_sslab.specs.Slabs.{block_at}
use Rattle.eleos_sslab.proofs.slab.SSlab.empty_place.Given as goal

abbrev pub invariant-loop-i : goal.invariant-loop-i
invariant-loop-i l = (k : ℕ) → k < l.i → HasObject (block_at l.self-inside.blocks.items k)
