-- The entry of what was refused for want of a frame may be stamped.
use Rattle.std.proofs.Common.{◌≡◌, ⊎_elim, ℕ, ◌<◌, [], ◌∷◌, true, refl, sym, ◌∙◌, ap, subst}
use Rattle.eleos_base.specs.declared.memory.Reply.TheVariants.{NoFrame}
use Rattle.eleos_base.specs.Plans.{IsCaller}
use Rattle.eleos_base.specs.Ties.{Has}
use Rattle.eleos_core.specs.declared.event.Event.TheVariants.{Starved}
use Rattle.eleos_core.specs.declared.event.Wanted.{Wanted}
use Rattle.eleos_core.specs.Applying.{stamp_of}
use Rattle.eleos_core.specs.Legal.{NeedsFrame}
use Rattle.eleos_core.specs.Parts.{IsWantedIn, clock_cell, list_in, page_cell}
use Rattle.eleos_core.specs.State.{address_of}
use Rattle.eleos_base.specs.Places.{home_of, page_of, sub_of}
use Rattle.eleos_core.specs.Sweeps.{IsTaken}
use Rattle.eleos_machine.specs.declared.holding.ClockTurn.{ClockTurn}
use Rattle.eleos_machine.specs.Holding.{HasClock}
use Rattle.eleos_machine.specs.Passes.{PassState, part_seen, plan_of}
use Rattle.eleos_machine.specs.Stamping.{MayStamp}
use Rattle.eleos_clock.specs.Lists.{AllNoted}

-- a link or an access that found no frame may be stamped: its words are the pass's own, of a search that began after its last stamp
pub may_starve : (s : PassState) (wanted : Wanted) (clock : ClockTurn) → NeedsFrame wanted → let k = plan_of s in let p = page_of k (sub_of k (address_of wanted)) in
    IsCaller k s.hand.number → 0 < s.hand.left → Has (page_cell k p) s.hand.turns → HasClock s (home_of k p) clock → IsWantedIn k s.hand.number wanted (part_seen s (page_cell k p)) → AllNoted clock.clock true s.sweep.words
    → s.sweep.since_stamp ≡ true → MayStamp (record s { draft = stamp_of s.hand.number (Starved wanted s.sweep.words) [] (NoFrame s.sweep.words) 0 })
may_starve s wanted clock needs caller left turn has is_wanted noted since = record {
  own = refl;
  left = left;
  turns = λ c touched. ⊎_elim (λ (e : c ≡ page_cell (plan_of s) p). subst (λ d. Has d s.hand.turns) (sym e) turn)
      (λ (more : Has c (clock_cell (plan_of s) (home_of (plan_of s) p) ∷ [])). ⊎_elim (λ (e : c ≡ clock_cell (plan_of s) (home_of (plan_of s) p)). subst (λ d. Has d s.hand.turns) (has.number ∙ sym e) has.turn) (λ (none : ⊥). absurd none) more) touched;
  legal = record { within = (caller, needs); on_parts = (is_wanted, subst (λ list. IsTaken s.sweep.words list) listed (record { all = noted.all; taken = noted.taken refl }), record { reply_is = refl; no_block = refl }) };
  sweep = (refl, since);
  bare = λ c bare. absurd bare;
  covered = λ c is. absurd (cc);
  there = λ c is. absurd (cc);
} where
  p : ℕ
  p = page_of (plan_of s) (sub_of (plan_of s) (address_of wanted))

  listed : clock.clock ≡ list_in (part_seen s (clock_cell (plan_of s) (home_of (plan_of s) p)))
  listed = ap list_in (has.value ∙ ap (part_seen s) has.number)
