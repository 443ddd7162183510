-- A round is ended: counted, stamped, and the turn of the clock cell given back.
use Rattle.std.proofs.Common.{◌≡◌, ℕ, ◌≤◌, List, [], ◌∷◌, length, nat_eq, refl, sym, ◌∙◌, ap, subst, arith}
use Rattle.std.specs.List.{IsDistinct}
use Rattle.eleos_base.specs.declared.memory.Looked.{Looked}
use Rattle.eleos_core.specs.Legal.{CoreStep}
use Rattle.eleos_core.specs.Parts.{Stamp}
use Rattle.eleos_plot.specs.Terms.{core_terms}
use Rattle.eleos_turn.specs.Hands.{Goes}
use Rattle.eleos_turn.specs.Numbers.{less_one}
use Rattle.eleos_turn.proofs.Clients.{goes_given, goes_trans}
use Rattle.eleos_machine.specs.declared.holding.ClockTurn.{ClockTurn}
use Rattle.eleos_machine.specs.Notes.{is_noted_free}
use Rattle.eleos_machine.specs.Passes.{IsLawful, PassState, gave, plan_of, seals_of}
use Rattle.eleos_machine.specs.Sweeping.{with_words}
use Rattle.eleos_swap.specs.declared.ends.RoundEnd.{RoundEnd}
use Rattle.eleos_swap.specs.Ends.{Ends}
use Rattle.eleos_swap.specs.Surveys.{EndsRound, MayEnd, MaySurvey, Surveys, round_stamp}
use Rattle.eleos_swap.proofs.Ending.{Ended, ended, few}
use Rattle.eleos_swap.proofs.Listed.{distinct, few_listed}

module _ (s : PassState) (e : ℕ) (clock : ClockTurn) (low : ℕ) (may : MayEnd s e clock low) (law : IsLawful s) where
  apart : IsDistinct nat_eq clock.clock
  apart = distinct s law e clock may.has

  -- there are few notes
  pub few_words : length s.sweep.words ≤ 512
  few_words = let a = few clock.clock apart low s.sweep.words may.stop in let b = few_listed s law e clock may.has in omega (arith, a, b)

  module _ (end : RoundEnd) (s' : PassState) (ends : Ends s low end s') where
    all : Ended clock.clock apart low s end s'
    all = ended clock.clock apart low s end s' may.stop ends

    abbrev t : PassState
    t = with_words s all.words

    may_at : MaySurvey t e clock low end
    may_at = record {
      actor = may.actor;
      left = may.left;
      has = record { known = may.has.known; number = may.has.number; turn = may.has.turn; value = may.has.value; hand_within = may.has.hand_within };
      since_survey = may.since_survey;
      few = (let a = all.few in let b = few_listed s law e clock may.has in omega (arith, a, b));
      end_is = all.end_is;
    }

    -- the survey may be stamped
    pub may_end : MaySurvey s' e clock low end
    may_end = subst (λ (y : PassState). MaySurvey y e clock low end) (sym all.is) may_at

    module _ (s₁ s₂ : PassState) (did : Surveys s' e clock low end s₁) (given : s₂ ≡ gave s₁ clock.number) where
      did_at : Surveys t e clock low end s₁
      did_at = subst (λ (y : PassState). Surveys y e clock low end s₁) all.is did

      abbrev g : PassState
      g = gave s₁ clock.number

      stamp_is : round_stamp s e low end all.words ≡ round_stamp s e low end s₁.sweep.words
      stamp_is = ap (λ (words : List Looked). round_stamp s e low end words) (sym did_at.words)

      at_given : EndsRound s e clock low end g
      at_given = record {
        past = did_at.past;
        goes = subst (λ (d : Stamp). Goes core_terms s.hand g.hand ((length did_at.past, d) ∷ [])) stamp_is
            (goes_trans core_terms s.hand s₁.hand g.hand ((length did_at.past, round_stamp s e low end all.words) ∷ []) [] did_at.goes (goes_given core_terms clock.number s₁.hand g.hand refl));
        sees = did_at.sees ∙ ap (λ (d : Stamp). d.entry ∷ did_at.past) stamp_is;
        legal = subst (λ (d : Stamp). CoreStep (plan_of s) (seals_of s) did_at.past d.entry) stamp_is did_at.legal;
        keeps = λ f is. ap (is_noted_free f) did_at.words ∙ all.keeps f is;
        turns = ap (less_one clock.number) did_at.turns;
        pins = did_at.pins;
        links = did_at.links;
        pointers = did_at.pointers;
      }

      -- and what is left of the pass then
      pub round_ends : EndsRound s e clock low end s₂
      round_ends = subst (EndsRound s e clock low end) (sym given) at_given
