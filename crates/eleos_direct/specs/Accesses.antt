-- What a direct access does.
use Rattle.std.specs.Prelude.{◌≡◌, ℕ, [], length, Result, Ok, Err}
use Rattle.eleos_base.specs.declared.memory.Addr.{Addr}
use Rattle.eleos_base.specs.declared.memory.Op.{Op as Calls}
use Rattle.eleos_base.specs.declared.memory.Op.TheVariants.{Read, Write}
use Rattle.eleos_base.specs.declared.memory.Reply.{Reply}
use Rattle.eleos_core.specs.Applying.{puts_of}
use Rattle.eleos_core.specs.Parts.{page_cell}
use Rattle.eleos_base.specs.Places.{sub_of}
use Rattle.eleos_host.specs.declared.port.HostPort.{Ghosts}
use Rattle.eleos_host.specs.declared.port.HostStore as store
use Rattle.eleos_host.specs.Taps.{TapState, failed_block}
use Rattle.eleos_turn.specs.Hands.{refused_at}
use Rattle.eleos_base.specs.Words.{IsBusy}
use Rattle.eleos_machine.specs.Passes.{PassState, plan_of, seals_of}
use Rattle.eleos_core.specs.Accesses.{IsAccess, page_at}
use Rattle.eleos_pages.specs.Crossed.{HasCrossed, at_place, came, spoiled_by}
use Rattle.eleos_base.specs.Answers.{access_refusal_reply}
use Rattle.eleos_direct.specs.declared.refusals.TryRefused.{TryRefused}
use Rattle.eleos_direct.specs.declared.refusals.TryRefused.TheVariants.{Access, Busy}
use Rattle.eleos_pages.specs.Entered.{Enters}
use Rattle.eleos_pages.specs.Held.{access_stamp}

-- the call reads or writes so many bytes from the address on
abbrev pub IsAccessAt : Addr → ℕ → Calls → Type 0
IsAccessAt at n (Read from m) = (from ≡ at) × (m ≡ n)
IsAccessAt at n (Write from bytes) = (from ≡ at) × (length bytes ≡ n)
IsAccessAt at n _ = ⊥

module _ {P : Type 0} (port : Ghosts P) (host : store.Ghosts P) where
  -- the access is the pass's one new entry, with the block that came for it, if one did. The call began its tap once, so that what crossed
  -- since then is all that crossed in it: the host gave that block alone, for the sub-page of the address, and took just the blocks that the
  -- entry seals. Where the block did not pass the tap names it.
  pub record HasAccessed (s : PassState) (before : TapState P) (at : Addr) (op : Calls) (reply : Reply) (s' : PassState) (tap : TapState P) : Type 0 where
    pub entered : Enters s (access_stamp s op (came tap) reply) [] s'
    pub crossed : HasCrossed port host before tap (at_place (sub_of (plan_of s) at) (came tap)) (puts_of (plan_of s) (seals_of s) (access_stamp s op (came tap) reply).entry entered.past)
    pub spoiled : failed_block tap ≡ spoiled_by reply (came tap)

  -- this call's try found the page of an access that is in range busy: nothing was stamped, and nothing crossed
  pub record FoundBusy (s : PassState) (before : TapState P) (at : Addr) (n : ℕ) (word : ℕ) (s' : PassState) (tap : TapState P) : Type 0 where
    pub in_range : IsAccess (plan_of s) s.hand.number at n
    pub busy : IsBusy word
    pub refused : s' ≡ record s { hand = refused_at s.hand (page_cell (plan_of s) (page_at (plan_of s) at)) word }
    pub crossed : HasCrossed port host before tap [] []

  -- what an access of so many bytes that never waits does, by its answer: it has this reply where it is accepted
  abbrev pub TriesAccess : PassState → TapState P → Addr → Calls → ℕ → Reply → Result (Unit {0}) TryRefused → PassState → TapState P → Type 0
  TriesAccess s before at op n good (Ok done) s' tap = HasAccessed s before at op good s' tap
  TriesAccess s before at op n good (Err (Access refused)) s' tap = HasAccessed s before at op (access_refusal_reply refused) s' tap
  TriesAccess s before at op n good (Err (Busy word)) s' tap = FoundBusy s before at n word s' tap
