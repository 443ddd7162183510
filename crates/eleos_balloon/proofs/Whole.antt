-- A change of a share, from its begin to its end.
use Rattle.std.proofs.Common.{◌≡◌, inr, ⊎_elim, ℕ, ◌+◌, ◌-◌, ◌*◌, ◌≤◌, List, [], ◌∷◌, ◌++◌, length, Bool, true, false, Some, None, sym, ◌∙◌, ap, subst, arith}
use Rattle.std.specs.List.{AllByRecursion}
use Rattle.eleos_base.specs.declared.memory.Looked.{Looked}
use Rattle.eleos_base.specs.Places.{all_frames}
use Rattle.eleos_base.specs.Ties.{Has}
use Rattle.eleos_base.specs.Words.{is_busy}
use Rattle.eleos_core.specs.Legal.{CoreStep, IsActor}
use Rattle.eleos_core.specs.Parts.{Stamp, clock_cell}
use Rattle.eleos_core.specs.Sweeps.{frames_in}
use Rattle.eleos_host.specs.declared.port.HostPort.{Ghosts}
use Rattle.eleos_host.specs.declared.port.HostStore as store
use Rattle.eleos_host.specs.Taps.{TapState}
use Rattle.eleos_plot.specs.Terms.{core_terms}
use Rattle.eleos_turn.specs.Hands.{Goes}
use Rattle.eleos_turn.specs.Numbers.{times}
use Rattle.eleos_turn.proofs.Clients.{goes_trans}
use Rattle.eleos_machine.specs.declared.holding.ClockTurn.{ClockTurn}
use Rattle.eleos_machine.specs.Machines.{Site, plan_at, seals_at}
use Rattle.eleos_machine.specs.Notes.{cleared}
use Rattle.eleos_machine.specs.Passes.{IsLawful, PassState, plan_of, seen}
use Rattle.eleos_clock.specs.Turns.{TookClock}
use Rattle.eleos_clock.proofs.Steps.{clock_kept}
use Rattle.eleos_swap.proofs.Steps.{seen_on}
use Rattle.eleos_balloon.specs.declared.ends.BalloonEnd.{BalloonEnd}
use Rattle.eleos_balloon.specs.declared.went.Went.{Went}
use Rattle.eleos_balloon.specs.Ends.{share_stamp}
use Rattle.eleos_balloon.specs.Gathers.{BeginsGather, GathersTo}
use Rattle.eleos_balloon.specs.Holds.{Begins, CanShare, Holds, MakesAll, TookPool}
use Rattle.eleos_balloon.specs.Releases.{ReleasesTo}
use Rattle.eleos_balloon.specs.Shares.{Ends, EndsShare, Gets, MayEndGather, MayEndRelease, Shares}
use Rattle.eleos_balloon.specs.Steps.{AreGone, all_entries}
use Rattle.eleos_balloon.proofs.Clocks.{few_of_machine}
use Rattle.eleos_balloon.proofs.Going.{AreMoved, entries_few, gone_on, gone_over, moved_on}
use Rattle.eleos_balloon.proofs.Held.{holds_on, makes_searched}

-- the turn of the enclave's clock cell was taken, by a pass with an empty sweep
pub begun : (z : Site) (e : ℕ) (s : PassState) → CanShare z e s → (clock : ClockTurn) (s₁ : PassState) → TookClock (record s { sweep = cleared true s.sweep }) e clock s₁ → Begins s e clock s₁
begun z e s can clock s₁ took = record {
  made = record { goes = took.searches.goes; pins = took.searches.pins; links = took.searches.links };
  holds = record {
    actor = subst (λ (y : Site × ℕ). IsActor (plan_at y.0) y.1) (λ i. (sym (took.searches.goes.home ∙ can.own) i, sym took.searches.goes.number i)) can.actor;
    turns = took.turns ∙ ap (λ ts. clock.number ∷ ts) can.no_turn;
    has = took.has;
    covered = λ c. let a = can.covered c in let b = took.searches.links c in let d = ap (times c) took.searches.pins in omega (arith, a, b, d);
    since_survey = took.searches.since_survey;
  };
  no_words = took.words;
}

-- it has the stamps that it had
pub left_still : (z : Site) (e : ℕ) (s : PassState) → CanShare z e s → (clock : ClockTurn) (s₁ : PassState) → Begins s e clock s₁ → 2 * all_frames (plan_of s₁) + 1 ≤ s₁.hand.left
left_still z e s can clock s₁ b = subst (λ (y : Site). 2 * all_frames (plan_at y) + 1 ≤ s₁.hand.left) (sym (b.made.goes.home ∙ can.own)) (let a = b.made.goes.left in let d = can.left in omega (arith, a, d))

-- the pool's clock cell is none whose turn the pass has
pub pool_unheld : (e : ℕ) (clock : ClockTurn) (s : PassState) → Holds e clock s → (z : Site) → s.hand.home ≡ z → Has (clock_cell (plan_at z) None) s.hand.turns → ⊥
pool_unheld e clock s h z own turn = ⊎_elim (λ (is : clock_cell (plan_of s) None ≡ clock.number). absurd (let n = h.has.number in let known = h.has.known in omega (arith, is, n, known))) (λ (none : ⊥). absurd none)
    (subst (Has (clock_cell (plan_of s) None)) h.turns (subst (λ (y : Site). Has (clock_cell (plan_at y) None) s.hand.turns) (sym own) turn))

-- it was taken too
pub gather_begun : (e : ℕ) (clock : ClockTurn) (s : PassState) → Holds e clock s → s.sweep.words ≡ [] → (pool : ClockTurn) (s₁ : PassState) → TookPool s pool s₁ → BeginsGather s e clock pool s₁
gather_begun e clock s h empty pool s₁ took = record {
  made = makes;
  holds = record {
    holds = holds_on e (clock.number ∷ []) (pool.number ∷ clock.number ∷ []) clock clock s s₁ [] h makes (took.turns ∙ ap (λ ts. pool.number ∷ ts) h.turns)
        (clock_kept s s₁ (Some e) clock took.searches (subst (Has clock.number) (sym took.turns) (inr h.has.turn)) h.has) (took.searches.since_survey ∙ h.since_survey);
    pool_has = took.has;
    tried = record {
      first = (pool.clock, ap (λ (ws : List Looked). frames_in ws ++ pool.clock) (sym none));
      busy = subst (AllByRecursion (λ (seen : Looked). is_busy seen.word ≡ true)) (sym none) tt;
    };
  };
  no_words = none;
} where
  makes : MakesAll s [] s₁
  makes = makes_searched s s₁ took.searches

  none : s₁.sweep.words ≡ []
  none = took.words ∙ empty

-- frames went, and then the survey was stamped
pub ends_after : (s s₁ s₂ : PassState) (e to : ℕ) (gets : Bool) (went : List Went) (end : BalloonEnd) → MakesAll s (all_entries s.hand.number gets e went) s₁ → EndsShare s₁ e to gets end s₂ → Ends s e to gets went end s₂
ends_after s s₁ s₂ e to gets went end made en = record {
  past = en.past;
  goes = subst (λ (d : Stamp). Goes core_terms s.hand s₂.hand (all_entries s.hand.number gets e went ++ (length en.past, d) ∷ [])) stamp_is
      (goes_trans core_terms s.hand s₁.hand s₂.hand (all_entries s.hand.number gets e went) ((length en.past, share_stamp s₁.hand.number e to end s₂.sweep.words) ∷ []) made.goes en.goes);
  way = en.way;
  sees = en.sees ∙ ap (λ (d : Stamp). d.entry ∷ en.past) stamp_is;
  legal = subst (λ (y : Site × Stamp). CoreStep (plan_at y.0) (seals_at y.0) en.past y.1.entry) (λ i. (made.goes.home i, stamp_is i)) en.legal;
  no_turn = en.no_turn;
  pins = en.pins ∙ made.pins;
  links = λ c. en.links c ∙ made.links c;
} where
  stamp_is : share_stamp s₁.hand.number e to end s₂.sweep.words ≡ share_stamp s.hand.number e to end s₂.sweep.words
  stamp_is = ap (λ n. share_stamp n e to end s₂.sweep.words) made.goes.number

-- nothing was made before
pub ends_before : (s s₁ s₂ : PassState) (e to : ℕ) (gets : Bool) (went : List Went) (end : BalloonEnd) → MakesAll s [] s₁ → Ends s₁ e to gets went end s₂ → Ends s e to gets went end s₂
ends_before s s₁ s₂ e to gets went end made en = record {
  past = en.past;
  goes = subst (λ n. Goes core_terms s.hand s₂.hand (all_entries n gets e went ++ (length en.past, share_stamp n e to end s₂.sweep.words) ∷ [])) made.goes.number
      (goes_trans core_terms s.hand s₁.hand s₂.hand [] (all_entries s₁.hand.number gets e went ++ (length en.past, share_stamp s₁.hand.number e to end s₂.sweep.words) ∷ []) made.goes en.goes);
  way = en.way;
  sees = en.sees ∙ ap (λ n. (share_stamp n e to end s₂.sweep.words).entry ∷ en.past) made.goes.number;
  legal = subst (λ (y : Site × ℕ). CoreStep (plan_at y.0) (seals_at y.0) en.past (share_stamp y.1 e to end s₂.sweep.words).entry) (λ i. (made.goes.home i, made.goes.number i)) en.legal;
  no_turn = en.no_turn;
  pins = en.pins ∙ made.pins;
  links = λ c. en.links c ∙ made.links c;
}

module _ (s : PassState) (law : IsLawful s) (e : ℕ) (clock : ClockTurn) (to : ℕ) (h : Holds e clock s) (left : 2 * all_frames (plan_of s) + 1 ≤ s.hand.left) where
  few : length clock.clock ≤ all_frames (plan_of s)
  few = few_of_machine s law (Some e) clock h.has

  -- there are stamps for all frames that may go
  pub release_left : 2 * (length clock.clock - to) ≤ s.hand.left
  release_left = let a = few in omega (arith, a, left)

  module _ {P : Type 0} (port : Ghosts P) (host : store.Ghosts P) (before tap : TapState P) (s₁ : PassState) (clock' : ClockTurn) (did : ReleasesTo port host s before e clock to s₁ tap clock') where
    -- the survey may come
    pub release_may_end : MayEndRelease s₁ e clock' to
    release_may_end = record {
      holds = did.holds;
      left = (let a = few in let b = did.made.goes.left in let d = entries_few s.hand.number false e did.went in let f = did.fewer in omega (arith, a, b, d, f, left));
      stop = did.end;
    }

    -- the enclave gave frames
    pub gave_frames : (end : BalloonEnd) (s₂ : PassState) → EndsShare s₁ e to false end s₂ → Shares port host s before e to end s₂ tap
    gave_frames end s₂ en = record {
      gets = false;
      went = did.went;
      gone = gone_on port host s.hand.home (seen s₁) (seen s₂) s.hand.number false e did.went before tap (seen_on s₁ s₂ ((length en.past, share_stamp s₁.hand.number e to end s₂.sweep.words) ∷ []) en.goes) did.gone;
      ends = ends_after s s₁ s₂ e to false did.went end did.made en;
    }

  module _ (pool : ClockTurn) (s₁ : PassState) (begins : BeginsGather s e clock pool s₁) (law₁ : IsLawful s₁) where
    few_pool : length pool.clock ≤ all_frames (plan_of s)
    few_pool = subst (λ (y : Site). length pool.clock ≤ all_frames (plan_at y)) begins.made.goes.home (few_of_machine s₁ law₁ None pool begins.holds.pool_has)

    -- there are stamps for all frames of the pool
    pub gather_left : length pool.clock ≤ s₁.hand.left
    gather_left = let a = few_pool in let b = begins.made.goes.left in omega (arith, a, b, left)

    module _ (s₂ : PassState) (clock' pool' : ClockTurn) (did : GathersTo s₁ e clock pool to s₂ clock' pool') where
      -- the survey may come
      pub gather_may_end : MayEndGather s₂ e clock' pool' to
      gather_may_end = record {
        holds = did.holds;
        left = (let a = few_pool in let b = begins.made.goes.left in let d = did.made.goes.left in let f = entries_few s₁.hand.number true e did.went in let g = did.count in omega (arith, a, b, d, f, g, left));
        stop = did.enough;
      }

      -- the enclave got frames
      pub got_frames : (end : BalloonEnd) (s₃ : PassState) → EndsShare s₂ e to true end s₃ → Gets s e to end s₃
      got_frames end s₃ en = record {
        went = did.went;
        moved = subst (λ (y : Site × ℕ). AreMoved y.0 (seen s₃) y.1 e did.went) (λ i. (begins.made.goes.home i, begins.made.goes.number i))
            (moved_on s₁.hand.home (seen s₂) (seen s₃) s₁.hand.number e did.went (seen_on s₂ s₃ ((length en.past, share_stamp s₂.hand.number e to end s₃.sweep.words) ∷ []) en.goes) did.moved);
        ends = ends_before s s₁ s₃ e to true did.went end begins.made (ends_after s₁ s₂ s₃ e to true did.went end did.made en);
      }

-- from the begin on
module _ (s : PassState) (e to : ℕ) (clock : ClockTurn) (s₁ : PassState) (begins : Begins s e clock s₁) {P : Type 0} (port : Ghosts P) (host : store.Ghosts P) (before : TapState P) (end : BalloonEnd) (s₂ : PassState) where
  pub shares_given : (tap : TapState P) → Shares port host s₁ before e to end s₂ tap → Shares port host s before e to end s₂ tap
  shares_given tap did = record {
    gets = did.gets;
    went = did.went;
    gone = subst (λ (y : Site × ℕ). AreGone port host y.0 (seen s₂) y.1 did.gets e did.went before tap) (λ i. (begins.made.goes.home i, begins.made.goes.number i)) did.gone;
    ends = ends_before s s₁ s₂ e to did.gets did.went end begins.made did.ends;
  }

  pub shares_got : Gets s₁ e to end s₂ → Shares port host s before e to end s₂ before
  shares_got did = record {
    gets = true;
    went = did.went;
    gone = gone_over port host s.hand.home (seen s₂) s.hand.number e did.went before
        (subst (λ (y : Site × ℕ). AreMoved y.0 (seen s₂) y.1 e did.went) (λ i. (begins.made.goes.home i, begins.made.goes.number i)) did.moved);
    ends = ends_before s s₁ s₂ e to true did.went end begins.made did.ends;
  }
