-- A whole round.
use Rattle.std.proofs.Common.{◌≡◌, ℕ, List, [], ◌∷◌, ◌++◌, length, cond, Some, refl, sym, ◌∙◌, ap, subst, arith}
use Rattle.std.proofs.lemmas.Bool.{eq-eqb}
use Rattle.eleos_base.specs.Places.{all_frames}
use Rattle.eleos_core.specs.declared.event.Goal.TheVariants.{Low}
use Rattle.eleos_core.specs.Legal.{CoreStep, IsActor}
use Rattle.eleos_core.specs.Parts.{Stamp}
use Rattle.eleos_core.specs.Quiet.{survey_stamp}
use Rattle.eleos_host.specs.declared.port.HostPort.{Ghosts}
use Rattle.eleos_host.specs.declared.port.HostStore as store
use Rattle.eleos_host.specs.Taps.{TapState}
use Rattle.eleos_plot.specs.Terms.{core_terms}
use Rattle.eleos_turn.specs.Hands.{Goes}
use Rattle.eleos_turn.specs.Numbers.{less_one}
use Rattle.eleos_turn.proofs.Clients.{goes_trans}
use Rattle.eleos_machine.specs.declared.holding.ClockTurn.{ClockTurn}
use Rattle.eleos_machine.specs.Machines.{Site, plan_at, seals_at}
use Rattle.eleos_machine.specs.Passes.{PassState, seen}
use Rattle.eleos_swap.specs.declared.ends.RoundEnd.{RoundEnd}
use Rattle.eleos_swap.specs.Ends.{MayStop, end_reply}
use Rattle.eleos_swap.specs.Evicts.{Evicts}
use Rattle.eleos_swap.specs.Making.{AreEvicts, HandMoves}
use Rattle.eleos_swap.specs.Rounds.{Begins, CanSwap, Swaps}
use Rattle.eleos_swap.specs.Surveys.{EndsRound, MayEnd, round_stamp}
use Rattle.eleos_swap.proofs.Steps.{clock_stays, evicts_on, seen_on}

module _ (z : Site) (e low : ℕ) (s : PassState) (can : CanSwap z e s) (clock : ClockTurn) (s₁ : PassState) (b : Begins z s e clock s₁)
    {P : Type 0} (port : Ghosts P) (host : store.Ghosts P) (before tap : TapState P) (s₂ : PassState) (ev : Evicts port host s₁ before clock.clock low s₂ tap) (clock' : ClockTurn) (moves : HandMoves clock clock') where
  home₁ : s₁.hand.home ≡ s.hand.home
  home₁ = b.goes.home

  home₂ : s₂.hand.home ≡ s.hand.home
  home₂ = ev.makes.goes.home ∙ home₁

  number₂ : s₂.hand.number ≡ s.hand.number
  number₂ = ev.makes.goes.number ∙ b.goes.number

  -- the round may end
  pub may : MayEnd s₂ e clock' low
  may = record {
    actor = subst (λ (y : Site × ℕ). IsActor (plan_at y.0) y.1) (λ i. (sym (home₂ ∙ can.own) i, sym number₂ i)) can.actor;
    left = (let a = ev.makes.goes.left in let c = b.goes.left in let d = ev.few in let f = can.left in let g = ap (λ (y : Site). all_frames (plan_at y)) (home₁ ∙ can.own) in omega (arith, a, c, d, f, g));
    has = clock_stays s₁ s₂ ev.made (Some e) clock clock' ev.makes moves b.has;
    since_survey = ev.makes.since_survey ∙ b.since_survey;
    stop = subst (λ (y : ClockTurn). MayStop y.clock low s₂.sweep.words) (sym moves.same) ev.stop;
  }

  module _ (end : RoundEnd) (s₃ : PassState) (en : EndsRound s₂ e clock' low end s₃) where
    -- the entry by the pass as it was
    stamp_is : round_stamp s₂ e low end s₃.sweep.words ≡ round_stamp s e low end s₃.sweep.words
    stamp_is = ap (λ n. survey_stamp n e (Low low) s₃.sweep.words (end_reply end)) number₂

    no_turn : s₃.hand.turns ≡ []
    no_turn = en.turns ∙ ((λ i. less_one (moves.same i).number ((ev.makes.turns ∙ b.turns) i)) ∙ ap {B = List ℕ} (λ v. cond v [] (clock.number ∷ [])) (eq-eqb clock.number clock.number refl))

    -- it was a round
    pub swaps : Swaps port host s before e low end s₃ tap
    swaps = record {
      evicts = ev.made;
      past = en.past;
      goes = subst (λ (d : Stamp). Goes core_terms s.hand s₃.hand (ev.made ++ (length en.past, d) ∷ [])) stamp_is
          (goes_trans core_terms s.hand s₁.hand s₃.hand [] (ev.made ++ (length en.past, round_stamp s₂ e low end s₃.sweep.words) ∷ []) b.goes
          (goes_trans core_terms s₁.hand s₂.hand s₃.hand ev.made ((length en.past, round_stamp s₂ e low end s₃.sweep.words) ∷ []) ev.makes.goes en.goes));
      evicted = evicts_on port host s.hand.home (seen s₂) (seen s₃) s₂.sweep.words s₃.sweep.words s.hand.number ev.made before tap
          (seen_on s₂ s₃ ((length en.past, round_stamp s₂ e low end s₃.sweep.words) ∷ []) en.goes) en.keeps
          (subst (λ (y : Site × ℕ). AreEvicts port host y.0 (seen s₂) s₂.sweep.words y.1 ev.made before tap) (λ i. (home₁ i, b.goes.number i)) ev.evicts);
      wanted = ev.wanted;
      sees = en.sees ∙ ap (λ (d : Stamp). d.entry ∷ en.past) stamp_is;
      legal = subst (λ (y : Site × Stamp). CoreStep (plan_at y.0) (seals_at y.0) en.past y.1.entry) (λ i. (home₂ i, stamp_is i)) en.legal;
      no_turn = no_turn;
      pins = en.pins ∙ (ev.makes.pins ∙ b.pins);
      links = λ c. en.links c ∙ (ev.makes.links c ∙ b.links c);
      pointers = en.pointers ∙ (ev.makes.pointers ∙ b.pointers);
    }
