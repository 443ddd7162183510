-- The end of a round is stamped.
use Rattle.std.proofs.Common.{◌≡◌, inl, ⊎_elim, ℕ, List, [], ◌∷◌, ◌++◌, Some, refl, sym, ◌∙◌, ap, subst, arith}
use Rattle.eleos_base.specs.declared.memory.Looked.{Looked}
use Rattle.eleos_base.specs.Ties.{Has}
use Rattle.eleos_core.specs.declared.event.Event.TheVariants.{Survey}
use Rattle.eleos_core.specs.declared.event.Goal.TheVariants.{Low}
use Rattle.eleos_core.specs.Applying.{stamp_of}
use Rattle.eleos_core.specs.Legal.{IsOwner}
use Rattle.eleos_core.specs.Parts.{Cell as Numbered, Part, Stamp, clock_cell, clock_part, foot, list_in, part_after}
use Rattle.eleos_core.specs.Quiet.{survey_stamp}
use Rattle.eleos_core.specs.Sweeps.{IsEnough, IsSwept}
use Rattle.eleos_core.proofs.CellNumbers.{enclave_clock_is}
use Rattle.eleos_plot.specs.declared.plot.Ground.{Ground}
use Rattle.eleos_plot.specs.Terms.{core_terms}
use Rattle.eleos_turn.specs.Hands.{Goes, HandState, links_on}
use Rattle.eleos_turn.proofs.Histories.{linked_append}
use Rattle.eleos_turn.proofs.Sound.{links_more}
use Rattle.eleos_base.specs.Histories.{no_link}
use Rattle.eleos_machine.specs.declared.holding.ClockTurn.{ClockTurn}
use Rattle.eleos_machine.specs.Machines.{Site, plan_at}
use Rattle.eleos_machine.specs.Passes.{PassState, part_seen, plan_of, seals_of}
use Rattle.eleos_machine.specs.Stamping.{HasStamped, MayStamp, kept}
use Rattle.eleos_machine.specs.Sweeping.{swept}
use Rattle.eleos_swap.specs.declared.ends.RoundEnd.{RoundEnd}
use Rattle.eleos_swap.specs.declared.ends.RoundEnd.TheVariants.{Enough, Swept}
use Rattle.eleos_swap.specs.Ends.{end_reply}
use Rattle.eleos_swap.specs.Surveys.{MaySurvey, Surveys, round_stamp}

-- the pass with that draft
abbrev pub drafted : PassState → ℕ → ℕ → RoundEnd → PassState
drafted s e low end = record s { draft = round_stamp s e low end s.sweep.words }

-- the draft with what the pass noted
pub draft_is : (n e low : ℕ) (words : List Looked) (end : RoundEnd) → swept words (stamp_of n (Survey e (Low low) []) [] (end_reply end) 0) ≡ survey_stamp n e (Low low) words (end_reply end)
draft_is n e low words (Enough free) = refl
draft_is n e low words (Swept free) = refl

-- its frames are those of the clock cell
listed : (s : PassState) (e : ℕ) (clock : ClockTurn) (low : ℕ) (end : RoundEnd) → MaySurvey s e clock low end → clock.clock ≡ list_in (part_seen s (clock_cell (plan_of s) (Some e)))
listed s e clock low end may = ap list_in (may.has.value ∙ ap (part_seen s) may.has.number)

-- the pass has the turn of what a survey touches
its_turn : (s : PassState) (e : ℕ) (clock : ClockTurn) (low : ℕ) (end : RoundEnd) → MaySurvey s e clock low end → (c : ℕ) → Has c (clock_cell (plan_of s) (Some e) ∷ []) → Has c s.hand.turns
its_turn s e clock low end may c touched = ⊎_elim (λ (is : c ≡ clock_cell (plan_of s) (Some e)). subst (λ d. Has d s.hand.turns) (may.has.number ∙ sym is) may.has.turn) (λ (none : ⊥). absurd none) touched

-- it may be stamped
pub may_survey : (s : PassState) (e : ℕ) (clock : ClockTurn) (low : ℕ) (end : RoundEnd) → MaySurvey s e clock low end → MayStamp (drafted s e low end)
may_survey s e clock low (Enough free) may = record {
  own = refl;
  left = may.left;
  turns = its_turn s e clock low (Enough free) may;
  legal = record { within = (may.actor, may.has.known); on_parts = (subst (λ own. IsEnough own low s.sweep.words free) (listed s e clock low (Enough free) may) may.end_is, refl) };
  sweep = (refl, may.since_survey);
  bare = λ c bare. absurd bare;
  covered = λ c is. absurd (cc);
  there = λ c is. absurd (cc);
}
may_survey s e clock low (Swept free) may = record {
  own = refl;
  left = may.left;
  turns = its_turn s e clock low (Swept free) may;
  legal = record { within = (may.actor, may.has.known); on_parts = (subst (λ own. IsSwept own low s.sweep.words free) (listed s e clock low (Swept free) may) may.end_is, refl) };
  sweep = (refl, may.since_survey);
  bare = λ c bare. absurd bare;
  covered = λ c is. absurd (cc);
  there = λ c is. absurd (cc);
}

-- a survey touches the clock cell
in_foot : (s : PassState) (e low : ℕ) (end : RoundEnd) → Has (clock_cell (plan_of s) (Some e)) (foot (plan_of s) (round_stamp s e low end s.sweep.words))
in_foot s e low (Enough free) = inl refl
in_foot s e low (Swept free) = inl refl

module _ (s : PassState) (e : ℕ) (clock : ClockTurn) (low : ℕ) (end : RoundEnd) (may : MaySurvey s e clock low end) (n : ℕ) (s' : PassState) (h : HasStamped (drafted s e low end) n s') where
  home : s'.hand.home ≡ s.hand.home
  home = h.goes.home

  turns : s'.hand.turns ≡ s.hand.turns
  turns = ap (λ (y : HandState Stamp Part Ground). y.turns) h.stamped.now

  abbrev c : ℕ
  c = clock_cell (plan_of s) (Some e)

  -- a survey leaves the clock cell as it is
  part : part_seen s' c ≡ part_seen s c
  part = h.touched c (in_foot s e low end)
      ∙ (ap (λ (cell : Numbered). part_after (plan_of s) (seals_of s) (round_stamp s e low end s.sweep.words) cell (part_seen s c)) (enclave_clock_is (plan_of s) e may.has.known)
      ∙ (ap (λ (q : Part). clock_part (list_in q)) here ∙ sym here)) where
        here : part_seen s c ≡ clock_part clock.clock
        here = sym (may.has.value ∙ ap (part_seen s) may.has.number)

  -- what the stamp leaves
  pub surveyed : Surveys s e clock low end s'
  surveyed = record {
    past = h.past;
    goes = subst (λ m. Goes core_terms s.hand s'.hand ((m, round_stamp s e low end s.sweep.words) ∷ [])) h.place h.goes;
    sees = h.sees;
    legal = h.legal;
    has = record {
      known = subst (λ (y : Site). IsOwner (plan_at y) (Some e)) (sym home) may.has.known;
      number = subst (λ (y : Site). clock.number ≡ clock_cell (plan_at y) (Some e)) (sym home) may.has.number;
      turn = subst (Has clock.number) (sym turns) may.has.turn;
      value = may.has.value ∙ (ap (part_seen s) may.has.number ∙ (sym part ∙ ap (part_seen s') (sym may.has.number)));
      hand_within = may.has.hand_within;
    };
    turns = turns;
    pins = ap (λ (y : HandState Stamp Part Ground). y.pins) h.stamped.now;
    links = λ d. ap (λ (y : HandState Stamp Part Ground). links_on core_terms y d) h.stamped.now
        ∙ (ap (λ (l : ℕ → ℕ → ℕ). l s.hand.number d) (linked_append core_terms s.hand.home.base.grounds no_link (s.hand.seen ++ h.stamped.more) (record { entry = round_stamp s e low end s.sweep.words; kept = kept (drafted s e low end) } ∷ []))
        ∙ links_more core_terms s.hand h.stamped.more s.hand.turns (let one = may.actor.from_one in omega (arith, one)) h.stamped.others d);
    pointers = ap (λ (y : PassState). y.pointers) h.rest;
    words = ap (λ (y : PassState). y.sweep.words) h.rest;
  }
