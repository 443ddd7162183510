-- The entries of evicts and fills may be stamped on turns in hand.
use Rattle.std.proofs.Common.{◌≡◌, ⊎_elim, ℕ, ◌<◌, List, [], ◌∷◌, refl, sym, ◌∙◌, ap, subst}
use Rattle.eleos_base.specs.declared.memory.Reply.{Reply}
use Rattle.eleos_base.specs.declared.memory.Reply.TheVariants.{Done}
use Rattle.eleos_base.specs.Ties.{Has}
use Rattle.eleos_core.specs.declared.event.Event.TheVariants.{Evict, Fill}
use Rattle.eleos_core.specs.Applying.{stamp_of}
use Rattle.eleos_core.specs.Legal.{ByBlocks, IsActor}
use Rattle.eleos_core.specs.Parts.{frame_cell, owner_in, page_cell, verdict_in}
use Rattle.eleos_base.specs.Places.{home_of}
use Rattle.eleos_plot.specs.Terms.{core_terms}
use Rattle.eleos_turn.specs.Hands.{links_on}
use Rattle.eleos_machine.specs.declared.holding.FreeFrame.{FreeFrame}
use Rattle.eleos_machine.specs.declared.holding.HeldPage.{HeldPage}
use Rattle.eleos_machine.specs.declared.holding.SolePage.{SolePage}
use Rattle.eleos_machine.specs.Holding.{HasAbsent, HasFree, HasSole}
use Rattle.eleos_machine.specs.Passes.{PassState, part_seen, plan_of, seals_of}
use Rattle.eleos_machine.specs.Stamping.{MayStamp}

-- a page that nobody links, with its frame, may be evicted
pub may_evict : (s : PassState) (sole : SolePage) → HasSole s sole → IsActor (plan_of s) s.hand.number → 0 < s.hand.left → MayStamp (record s { draft = stamp_of s.hand.number (Evict sole.page sole.frame) [] Done 0 })
may_evict s sole has actor left = record {
  own = refl;
  left = left;
  turns = λ c touched. ⊎_elim (λ (e : c ≡ page_cell (plan_of s) sole.page). subst (λ d. Has d s.hand.turns) (sym e) has.page.turn)
      (λ (more : Has c (frame_cell (plan_of s) sole.frame ∷ [])). ⊎_elim (λ (e : c ≡ frame_cell (plan_of s) sole.frame). subst (λ d. Has d s.hand.turns) (sym e) has.frame.turn) (λ (none : ⊥). absurd none) more) touched;
  legal = record { within = (actor, has.page.number, has.frame.number); on_parts = (has.in_frame, record { reply_is = refl; no_block = refl }) };
  sweep = tt;
  bare = λ c bare. ⊎_elim (λ (e : c ≡ page_cell (plan_of s) sole.page). (subst (λ d. Has d s.hand.clean) (sym e) has.clean, ap (links_on core_terms s.hand) e ∙ has.no_link)) (λ (none : ⊥). absurd none) bare;
  covered = λ c is. absurd (cc);
  there = λ c is. absurd (cc);
}

-- an absent page may be filled into a free frame of its enclave, with the blocks that came
pub may_fill : (s : PassState) (page : HeldPage) (frame : FreeFrame) (blocks : List (List ℕ)) (reply : Reply) → HasAbsent s page → HasFree s frame → owner_in (part_seen s (frame_cell (plan_of s) frame.frame)) ≡ home_of (plan_of s) page.page
    → ByBlocks (verdict_in (plan_of s) (seals_of s) (Fill page.page frame.frame) blocks (part_seen s (page_cell (plan_of s) page.page))) Done reply
    → IsActor (plan_of s) s.hand.number → 0 < s.hand.left → MayStamp (record s { draft = stamp_of s.hand.number (Fill page.page frame.frame) blocks reply 0 })
may_fill s page frame blocks reply has free home judged actor left = record {
  own = refl;
  left = left;
  turns = λ c touched. ⊎_elim (λ (e : c ≡ page_cell (plan_of s) page.page). subst (λ d. Has d s.hand.turns) (sym e) has.page.turn)
      (λ (more : Has c (frame_cell (plan_of s) frame.frame ∷ [])). ⊎_elim (λ (e : c ≡ frame_cell (plan_of s) frame.frame). subst (λ d. Has d s.hand.turns) (sym e) free.held.turn) (λ (none : ⊥). absurd none) more) touched;
  legal = record { within = (actor, has.page.number, free.held.number); on_parts = (has.absent, free.empty, home, judged) };
  sweep = tt;
  bare = λ c bare. absurd bare;
  covered = λ c is. absurd (cc);
  there = λ c is. absurd (cc);
}
