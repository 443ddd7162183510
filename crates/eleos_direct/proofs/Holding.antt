-- From a call's beginning to the page whose turn was taken, and back.
use Rattle.std.proofs.Common.{◌≡◌, ℕ, ◌-◌, ◌*◌, ◌/◌, ◌==◌, List, [], ◌∷◌, ◌&&◌, length, false, not, Option, Some, None, is_some, option_map, refl, sym, ◌∙◌, ap, subst}
use Rattle.eleos_base.specs.declared.memory.Addr.{Addr}
use Rattle.eleos_base.specs.declared.memory.Op.{Op as Calls}
use Rattle.eleos_base.specs.declared.memory.Op.TheVariants.{Read, Write}
use Rattle.eleos_base.specs.declared.memory.Reply.{Reply}
use Rattle.eleos_base.specs.declared.memory.Reply.TheVariants.{BadRange}
use Rattle.eleos_base.specs.declared.plan.Plan.{Plan}
use Rattle.eleos_base.specs.Plain.{is_accepted}
use Rattle.eleos_base.specs.Plans.{enclave_of, sub_bytes}
use Rattle.eleos_core.specs.declared.event.Event.TheVariants.{Op}
use Rattle.eleos_core.specs.Applying.{puts_of, stamp_of}
use Rattle.eleos_core.specs.Legal.{CoreStep}
use Rattle.eleos_core.specs.Parts.{Stamp, frame_in, page_cell, part_at, places_in, subs_in}
use Rattle.eleos_base.specs.Places.{first_sub, is_sub_of, per_page, sub_of}
use Rattle.eleos_core.specs.Seals.{Seals}
use Rattle.eleos_core.specs.State.{History, entry}
use Rattle.eleos_core.proofs.AccessParts.{puts_from-none}
use Rattle.eleos_core.proofs.SealedPuts.{puts_are}
use Rattle.eleos_core.proofs.Spots.{and_false}
use Rattle.eleos_host.specs.declared.port.HostPort.{Ghosts}
use Rattle.eleos_host.specs.declared.port.HostStore as store
use Rattle.eleos_host.specs.Stores.{Store}
use Rattle.eleos_host.specs.Taps.{TapState, failed_block}
use Rattle.eleos_plot.specs.declared.cell.Cell.{Cell}
use Rattle.eleos_plot.specs.declared.plot.Ground.{Ground}
use Rattle.eleos_plot.specs.Terms.{core_terms}
use Rattle.eleos_turn.specs.Hands.{Goes, HandState, refused_at}
use Rattle.eleos_base.specs.Words.{IsBusy}
use Rattle.eleos_turn.specs.Numbers.{less_one}
use Rattle.eleos_turn.proofs.Clients.{goes_links, goes_trans}
use Rattle.eleos_machine.specs.Machines.{Site, plan_at, seals_at}
use Rattle.eleos_machine.specs.Passes.{PassState, TookTurn, plan_of, seals_of}
use Rattle.eleos_core.specs.Accesses.{page_at}
use Rattle.eleos_pages.specs.Crossed.{Crosses, HasBegun, HasCrossed, at_place, came, with_crossings, with_puts}
use Rattle.eleos_pages.proofs.CrossedBlocks.{came-idle}
use Rattle.eleos_direct.specs.Accesses.{FoundBusy, HasAccessed}
use Rattle.eleos_pages.specs.Entered.{Enters}
use Rattle.eleos_pages.proofs.Beginning.{entered_after, none_since, since_begin}
use Rattle.eleos_pages.proofs.Ending.{only_turn}
use Rattle.eleos_pages.specs.Held.{IsPageOf, access_stamp}
use Rattle.eleos_direct.specs.Held.{AccessesHeld}

-- a read seals nothing, and nor does a refused write
pub read_puts : (k : Plan) (x : Seals) (past : History) (who : ℕ) (at : Addr) (n : ℕ) (blocks : List (List ℕ)) (reply : Reply) → CoreStep k x past (entry who (Op (Read at n)) blocks reply)
    → puts_of k x (entry who (Op (Read at n)) blocks reply) past ≡ []
read_puts k x past who at n blocks reply step = sym (puts_are k x past who (Op (Read at n)) blocks reply 0 step)

module _ {P : Type 0} (port : Ghosts P) (host : store.Ghosts P) where
  -- an access that is out of range
  pub outside : (s s' : PassState) (before tap : TapState P) (at : Addr) (op : Calls) → HasBegun port host before tap
      → ((past : History) (blocks : List (List ℕ)) → CoreStep (plan_of s) (seals_of s) past (entry s.hand.number (Op op) blocks BadRange) → puts_of (plan_of s) (seals_of s) (entry s.hand.number (Op op) blocks BadRange) past ≡ [])
      → Enters s (access_stamp s op [] BadRange) [] s' → HasAccessed port host s before at op BadRange s' tap
  outside s s' before tap at op begun none entered =
      let no_block : came tap ≡ [] = came-idle tap begun.ready.idle in
      let e : Enters s (access_stamp s op (came tap) BadRange) [] s' = subst (λ bs. Enters s (access_stamp s op bs BadRange) [] s') (sym no_block) entered in record {
        entered = e;
        crossed = none_since port host before tap _ _ (ap (at_place (sub_of (plan_of s) at)) no_block) (none e.past (came tap) e.legal) begun;
        spoiled = ap (option_map (Rattle.eleos_host.specs.Taps.block_of tap)) begun.ready.no_failure;
      }

  -- an access on the page whose turn was taken, by a pass that is as before the call
  pub accessed_after : (s begun_by mid s' : PassState) (before tap tap' : TapState P) (at : Addr) (op : Calls) (reply : Reply) (cell word : ℕ) (value : Cell)
      → begun_by ≡ s → s.hand.turns ≡ [] → TookTurn cell word begun_by value mid → HasBegun port host before tap → AccessesHeld port host mid tap at cell op reply s' tap' → HasAccessed port host s before at op reply s' tap'
  accessed_after s begun_by mid s' before tap tap' at op reply cell word value same idle took_turn begun a =
      let took : TookTurn cell word s value mid = subst (λ (y : PassState). TookTurn cell word y value mid) same took_turn in
      let home : mid.hand.home ≡ s.hand.home = took.goes.home in
      let number : mid.hand.number ≡ s.hand.number = took.goes.number in record {
        entered = entered_after s mid s' (access_stamp mid op (came tap') reply) (access_stamp s op (came tap') reply) (less_one cell mid.hand.turns) [] took.goes
            (ap (λ (y : HandState Stamp _ Ground). y.pins) took.took.now) (ap (λ (y : HandState Stamp _ Ground). y.refused) took.took.now) took.rest
            (ap (λ who. stamp_of who (Op op) (came tap') reply 0) number)
            (only_turn cell mid.hand.turns (ap (λ (y : HandState Stamp _ Ground). y.turns) took.took.now ∙ ap (λ turns. cell ∷ turns) idle)) a.entered;
        crossed = since_begin port host before tap' tap _ _ begun
            (subst (λ (z : Site). Crosses port host tap tap' (at_place (sub_of (plan_at z) at) (came tap')) (puts_of (plan_at z) (seals_at z) (entry s.hand.number (Op op) (came tap') reply) a.entered.past)) home
            (subst (λ who. Crosses port host tap tap' (at_place (sub_of (plan_of mid) at) (came tap')) (puts_of (plan_of mid) (seals_of mid) (entry who (Op op) (came tap') reply) a.entered.past)) number a.crossed));
        spoiled = a.spoiled;
      }

  -- a try that found the page busy
  pub found_busy : (z : Site) (s begun_by s' : PassState) (before tap : TapState P) (at : Addr) (n cell word : ℕ) → begun_by ≡ s → s.hand.home ≡ z → HasBegun port host before tap → IsPageOf (plan_at z) s.hand.number at n cell → IsBusy word
      → s' ≡ record begun_by { hand = refused_at begun_by.hand cell word } → FoundBusy port host s before at n word s' tap
  found_busy z s begun_by s' before tap at n cell word same own begun page busy refused =
      let p : IsPageOf (plan_of s) s.hand.number at n cell = subst (λ (y : Site). IsPageOf (plan_at y) s.hand.number at n cell) (sym own) page in record {
        in_range = p.range;
        busy = busy;
        refused = refused ∙ (ap (λ (y : PassState). record y { hand = refused_at y.hand cell word }) same ∙ ap (λ (m : ℕ). record s { hand = refused_at s.hand m word }) p.cell_is);
        crossed = none_since port host before tap [] [] refl refl begun;
      }
