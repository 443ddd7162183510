-- An access while the turn of its page is held.
use Rattle.std.specs.Prelude.{◌≡◌, ℕ}
use Rattle.eleos_base.specs.declared.memory.Addr.{Addr}
use Rattle.eleos_base.specs.declared.memory.Op.{Op as Calls}
use Rattle.eleos_base.specs.declared.memory.Reply.{Reply}
use Rattle.eleos_base.specs.Places.{sub_of}
use Rattle.eleos_core.specs.Applying.{puts_of}
use Rattle.eleos_host.specs.declared.port.HostPort.{Ghosts}
use Rattle.eleos_host.specs.declared.port.HostStore as store
use Rattle.eleos_host.specs.Taps.{TapState, failed_block}
use Rattle.eleos_machine.specs.Passes.{PassState, plan_of, seals_of}
use Rattle.eleos_pages.specs.Crossed.{Crosses, at_place, came, spoiled_by}
use Rattle.eleos_pages.specs.Entered.{Enters}
use Rattle.eleos_pages.specs.Held.{access_stamp}
use Rattle.eleos_turn.specs.Numbers.{less_one}

-- the access is the pass's one new entry, with the block that came for it; the turn of this cell was given back; the host gave that block and took those
-- that the entry seals, and nothing else
pub record AccessesHeld {P : Type 0} (port : Ghosts P) (host : store.Ghosts P) (s : PassState) (tap : TapState P) (at : Addr) (cell : ℕ) (op : Calls) (reply : Reply) (s' : PassState) (tap' : TapState P) : Type 0 where
  pub entered : Enters s (access_stamp s op (came tap') reply) (less_one cell s.hand.turns) s'
  pub crossed : Crosses port host tap tap' (at_place (sub_of (plan_of s) at) (came tap')) (puts_of (plan_of s) (seals_of s) (access_stamp s op (came tap') reply).entry entered.past)
  pub spoiled : failed_block tap' ≡ spoiled_by reply (came tap')
