-- A frame that goes from an enclave to the pool or back.
use Rattle.std.specs.Prelude.{◌≡◌, ℕ, [], None}
use Rattle.eleos_base.specs.declared.memory.Reply.TheVariants.{Done}
use Rattle.eleos_core.specs.declared.event.Event.TheVariants.{Move}
use Rattle.eleos_core.specs.Applying.{stamp_of}
use Rattle.eleos_core.specs.Cells.{Cells}
use Rattle.eleos_core.specs.Fills.{the_frame_in}
use Rattle.eleos_core.specs.Parts.{Stamp, holder_in, owner_in}
use Rattle.eleos_base.specs.Places.{Owner}

-- the stamp of a move
abbrev pub move_stamp : ℕ → ℕ → Owner → Owner → Stamp
move_stamp who f from to = stamp_of who (Move f from to) [] Done 0

-- the frame can leave its owner
pub record CanMoveIn (m : Cells) (f : ℕ) (from : Owner) : Type 0 where
  pub owned : owner_in (the_frame_in m f) ≡ from
  pub free : holder_in (the_frame_in m f) ≡ None
