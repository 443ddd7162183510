-- What an access through a linked pointer does.
use Rattle.std.specs.Prelude.{◌≡◌, ℕ, [], None, Result, Ok, Err, true}
use Rattle.eleos_base.specs.declared.memory.Addr.{Addr}
use Rattle.eleos_base.specs.declared.memory.Op.{Op as Calls}
use Rattle.eleos_base.specs.declared.memory.Reply.{Reply}
use Rattle.eleos_base.specs.Answers.{access_refusal_reply}
use Rattle.eleos_base.specs.Places.{sub_of}
use Rattle.eleos_base.specs.Words.{IsBusy}
use Rattle.eleos_core.specs.declared.event.Wanted.TheVariants.{Op as ACall}
use Rattle.eleos_core.specs.Accesses.{IsAccess, page_at}
use Rattle.eleos_core.specs.Legal.{wanted_refusal}
use Rattle.eleos_core.specs.Parts.{page_cell}
use Rattle.eleos_core.specs.State.{is_present}
use Rattle.eleos_turn.specs.Hands.{refused_at}
use Rattle.eleos_machine.specs.Passes.{PassState, plan_of}
use Rattle.eleos_pages.specs.Entered.{Enters}
use Rattle.eleos_pages.specs.Held.{access_stamp}
use Rattle.eleos_direct.specs.declared.refusals.TryRefused.{TryRefused}
use Rattle.eleos_direct.specs.declared.refusals.TryRefused.TheVariants.{Access, Busy}
use Rattle.eleos_direct.specs.Laws.{IsServed}

-- the access is the pass's one new entry. Its page is in a frame then, so no block came for it; what plain memory does not refuse is served, or worn
pub record HasAccessed (s : PassState) (at : Addr) (op : Calls) (reply : Reply) (s' : PassState) : Type 0 where
  pub entered : Enters s (access_stamp s op [] reply) [] s'
  pub present : is_present (plan_of s) entered.past (sub_of (plan_of s) at) ≡ true
  pub served : wanted_refusal (plan_of s) entered.past s.hand.number (ACall op) ≡ None → IsServed (plan_of s) op reply

-- this call's try found the page of an access that is in range busy: nothing was stamped
pub record FoundBusy (s : PassState) (at : Addr) (n : ℕ) (word : ℕ) (s' : PassState) : Type 0 where
  pub in_range : IsAccess (plan_of s) s.hand.number at n
  pub busy : IsBusy word
  pub refused : s' ≡ record s { hand = refused_at s.hand (page_cell (plan_of s) (page_at (plan_of s) at)) word }

-- what an access of so many bytes that never waits does, by its answer: it has this reply where it is accepted
abbrev pub TriesAccess : PassState → Addr → Calls → ℕ → Reply → Result (Unit {0}) TryRefused → PassState → Type 0
TriesAccess s at op n good (Ok done) s' = HasAccessed s at op good s'
TriesAccess s at op n good (Err (Access refused)) s' = HasAccessed s at op (access_refusal_reply refused) s'
TriesAccess s at op n good (Err (Busy word)) s' = FoundBusy s at n word s'
