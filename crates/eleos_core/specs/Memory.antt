-- When applying an event may want memory.
use Rattle.std.specs.Prelude.{◌≡◌, ℕ, true}
use Rattle.eleos_core.specs.declared.event.Event.{Event}
use Rattle.eleos_core.specs.declared.event.Event.TheVariants.{Op, Link, Unlink, Fill, Evict, Move, Starved, Spoiled, Survey}
use Rattle.eleos_core.specs.Accesses.{may_link}
use Rattle.eleos_core.specs.Cells.{Cells}
use Rattle.eleos_core.specs.Moves.{CanMoveIn}
use Rattle.eleos_core.specs.Offences.{CanEvictIn}
use Rattle.eleos_core.specs.Quiet.{IsStarving}

-- the event offends against nothing, as a call never does; an unlink, a fill, a spoiled access and the end of a search want no memory at all
abbrev pub MayWantMemory : Cells → ℕ → Event → Type 0
MayWantMemory m who (Op op) = Unit {0}
MayWantMemory m who (Link at) = may_link m who at ≡ true
MayWantMemory m who (Unlink p) = ⊥
MayWantMemory m who (Fill p f) = ⊥
MayWantMemory m who (Evict p f) = CanEvictIn m p f
MayWantMemory m who (Move f from to) = CanMoveIn m f from
MayWantMemory m who (Starved wanted sweep) = IsStarving m who wanted sweep
MayWantMemory m who (Spoiled wanted) = ⊥
MayWantMemory m who (Survey e goal sweep) = ⊥
