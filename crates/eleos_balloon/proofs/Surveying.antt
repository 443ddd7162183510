-- The end of a change is stamped.
use Rattle.std.proofs.Common.{◌≡◌, ◌⊎◌, inl, inr, ⊎_elim, ℕ, ◌<◌, List, [], ◌∷◌, ◌++◌, length, Some, None, refl, sym, ◌∙◌, ap, subst, arith}
use Rattle.std.proofs.lemmas.Bool.{cases_eq}
use Rattle.eleos_base.specs.declared.memory.Looked.{Looked}
use Rattle.eleos_base.specs.Histories.{no_link}
use Rattle.eleos_base.specs.Places.{Owner}
use Rattle.eleos_base.specs.Ties.{Has}
use Rattle.eleos_core.specs.declared.event.Event.TheVariants.{Survey}
use Rattle.eleos_core.specs.declared.event.Goal.TheVariants.{To}
use Rattle.eleos_core.specs.Applying.{stamp_of}
use Rattle.eleos_core.specs.Parts.{Cell as Numbered, Part, Stamp, cell_of, clock_cell, clock_part, foot, list_in, part_after, the_clock}
use Rattle.eleos_core.specs.Sweeps.{IsShort, IsTaken}
use Rattle.eleos_plot.specs.declared.plot.Ground.{Ground}
use Rattle.eleos_plot.specs.Terms.{core_terms}
use Rattle.eleos_turn.specs.Hands.{Goes, HandState, links_on}
use Rattle.eleos_turn.proofs.Histories.{linked_append}
use Rattle.eleos_turn.proofs.Sound.{links_more}
use Rattle.eleos_machine.specs.declared.holding.ClockTurn.{ClockTurn}
use Rattle.eleos_machine.specs.Holding.{HasClock}
use Rattle.eleos_machine.specs.Passes.{PassState, part_seen, plan_of, seals_of}
use Rattle.eleos_machine.specs.Stamping.{HasStamped, MayStamp, kept}
use Rattle.eleos_machine.specs.Sweeping.{swept}
use Rattle.eleos_balloon.specs.declared.ends.BalloonEnd.{BalloonEnd}
use Rattle.eleos_balloon.specs.declared.ends.BalloonEnd.TheVariants.{Done, Short, Pinned}
use Rattle.eleos_balloon.specs.Ends.{MaySurvey, Surveys, end_reply, share_stamp}
use Rattle.eleos_balloon.proofs.Clocks.{owner_clock_is}
use Rattle.eleos_balloon.proofs.Held.{clock_as}

-- the pass with that draft
abbrev pub drafted : PassState → ℕ → ℕ → BalloonEnd → PassState
drafted s e to end = record s { draft = share_stamp s.hand.number e to end s.sweep.words }

-- the draft with what the pass noted
pub draft_is : (n e to : ℕ) (words : List Looked) (end : BalloonEnd) → swept words (stamp_of n (Survey e (To to) []) [] (end_reply end) 0) ≡ share_stamp n e to end words
draft_is n e to words (Done reached) = refl
draft_is n e to words (Short reached) = refl
draft_is n e to words (Pinned reached) = refl

-- a clock's frames are those of its cell
listed : (s : PassState) (o : Owner) (clock : ClockTurn) → HasClock s o clock → clock.clock ≡ list_in (part_seen s (clock_cell (plan_of s) o))
listed s o clock has = ap list_in (has.value ∙ ap (part_seen s) has.number)

-- the pass has the turn of a clock cell
its_turn : (s : PassState) (o : Owner) (clock : ClockTurn) → HasClock s o clock → (c : ℕ) → c ≡ clock_cell (plan_of s) o → Has c s.hand.turns
its_turn s o clock has c is = subst (λ d. Has d s.hand.turns) (has.number ∙ sym is) has.turn

only_turn : (s : PassState) (o : Owner) (clock : ClockTurn) → HasClock s o clock → (c : ℕ) → Has c (clock_cell (plan_of s) o ∷ []) → Has c s.hand.turns
only_turn s o clock has c touched = ⊎_elim (λ (is : c ≡ clock_cell (plan_of s) o). its_turn s o clock has c is) (λ (none : ⊥). absurd none) touched

-- it may be stamped
pub may_survey : (s : PassState) (e : ℕ) (clock : ClockTurn) (to : ℕ) (end : BalloonEnd) → MaySurvey s e clock to end → MayStamp (drafted s e to end)
may_survey s e clock to (Done reached) may = record {
  own = refl;
  left = may.left;
  turns = only_turn s (Some e) clock may.has;
  legal = record { within = (may.actor, may.has.known); on_parts = (subst (λ own. (reached ≡ length own) × (reached ≡ to) × (s.sweep.words ≡ [])) (listed s (Some e) clock may.has) may.end_is, refl) };
  sweep = (refl, may.since_survey);
  bare = λ c bare. absurd bare;
  covered = λ c is. absurd (cc);
  there = λ c is. absurd (cc);
}
may_survey s e clock to (Pinned reached) may = record {
  own = refl;
  left = may.left;
  turns = only_turn s (Some e) clock may.has;
  legal = record { within = (may.actor, may.has.known); on_parts = (subst (λ own. (reached ≡ length own) × (to < reached) × IsTaken s.sweep.words own) (listed s (Some e) clock may.has) may.end_is, refl) };
  sweep = (refl, may.since_survey);
  bare = λ c bare. absurd bare;
  covered = λ c is. absurd (cc);
  there = λ c is. absurd (cc);
}
may_survey s e clock to (Short reached) may = record {
  own = refl;
  left = may.left;
  turns = λ c touched. ⊎_elim (λ (is : c ≡ clock_cell (plan_of s) (Some e)). its_turn s (Some e) clock may.has c is)
      (λ (more : Has c (clock_cell (plan_of s) None ∷ [])). only_turn s None may.end_is.2.pool may.end_is.2.has c more) touched;
  legal = record {
    within = (may.actor, may.has.known);
    on_parts = (
      (subst (λ own. reached ≡ length own) (listed s (Some e) clock may.has) may.end_is.0, may.end_is.1, subst (λ pool. IsShort pool s.sweep.words) (listed s None may.end_is.2.pool may.end_is.2.has) may.end_is.2.short),
      refl,
    );
  };
  sweep = (refl, may.since_survey);
  bare = λ c bare. absurd bare;
  covered = λ c is. absurd (cc);
  there = λ c is. absurd (cc);
}

-- a number stands in a list or not
has_or : (c : ℕ) (xs : List ℕ) → Has c xs ⊎ (Has c xs → ⊥)
has_or c [] = inr (λ none. none)
has_or c (x ∷ xs) = ⊎_elim (λ (is : c ≡ x). inl (inl is))
    (λ (ne : c ≡ x → ⊥). ⊎_elim (λ (in_it : Has c xs). inl (inr in_it)) (λ (none : Has c xs → ⊥). inr (λ has. ⊎_elim (λ (is : c ≡ x). ne is) (λ (more : Has c xs). none more) has)) (has_or c xs))
    (cases_eq c x)

-- a survey leaves the part of a clock cell as it is
same_part : (s : PassState) (e to : ℕ) (end : BalloonEnd) (o : Owner) (q : Part) → part_after (plan_of s) (seals_of s) (share_stamp s.hand.number e to end s.sweep.words) (the_clock o) q ≡ clock_part (list_in q)
same_part s e to (Done reached) o q = refl
same_part s e to (Short reached) o q = refl
same_part s e to (Pinned reached) o q = refl

module _ (s : PassState) (e : ℕ) (clock : ClockTurn) (to : ℕ) (end : BalloonEnd) (may : MaySurvey s e clock to end) (n : ℕ) (s' : PassState) (h : HasStamped (drafted s e to end) n s') where
  home : s'.hand.home ≡ s.hand.home
  home = h.goes.home

  turns : s'.hand.turns ≡ s.hand.turns
  turns = ap (λ (y : HandState Stamp Part Ground). y.turns) h.stamped.now

  part : (o : Owner) (c : ClockTurn) → HasClock s o c → part_seen s' c.number ≡ part_seen s c.number
  part o c has = ⊎_elim
      (λ (touched : Has c.number (foot (plan_of s) (share_stamp s.hand.number e to end s.sweep.words))). h.touched c.number touched
      ∙ (ap (λ (cell : Numbered). part_after (plan_of s) (seals_of s) (share_stamp s.hand.number e to end s.sweep.words) cell (part_seen s c.number)) (ap (cell_of (plan_of s)) has.number ∙ owner_clock_is (plan_of s) o has.known)
      ∙ (same_part s e to end o (part_seen s c.number) ∙ (ap (λ (q : Part). clock_part (list_in q)) (sym has.value) ∙ has.value))))
      (λ (none : Has c.number (foot (plan_of s) (share_stamp s.hand.number e to end s.sweep.words)) → ⊥). h.others c.number has.turn none)
      (has_or c.number (foot (plan_of s) (share_stamp s.hand.number e to end s.sweep.words)))

  -- what the stamp leaves
  pub surveyed : Surveys s e to end s'
  surveyed = record {
    past = h.past;
    goes = subst (λ m. Goes core_terms s.hand s'.hand ((m, share_stamp s.hand.number e to end s.sweep.words) ∷ [])) h.place h.goes;
    sees = h.sees;
    legal = h.legal;
    turns = turns;
    pins = ap (λ (y : HandState Stamp Part Ground). y.pins) h.stamped.now;
    links = λ d. ap (λ (y : HandState Stamp Part Ground). links_on core_terms y d) h.stamped.now
        ∙ (ap (λ (l : ℕ → ℕ → ℕ). l s.hand.number d) (linked_append core_terms s.hand.home.base.grounds no_link (s.hand.seen ++ h.stamped.more) (record { entry = share_stamp s.hand.number e to end s.sweep.words; kept = kept (drafted s e to end) } ∷ []))
        ∙ links_more core_terms s.hand h.stamped.more s.hand.turns (let one = may.actor.from_one in omega (arith, one)) h.stamped.others d);
    words = ap (λ (y : PassState). y.sweep.words) h.rest;
    clocks = λ o c has. clock_as s s' o c home (subst (Has c.number) (sym turns) has.turn) (part o c has) has;
  }
