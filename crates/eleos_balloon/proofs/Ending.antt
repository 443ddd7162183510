-- A change is ended by the share that was reached, stamped, and the turns given back.
use Rattle.std.proofs.Common.{◌≡◌, inl, ⊎_elim, ℕ, ◌<◌, ◌≤◌, List, [], ◌∷◌, length, Bool, true, false, Some, None, refl, sym, ◌∙◌, ap, subst, arith, IsPermutation}
use Rattle.std.proofs.lemmas.Bool.{false≢true}
use Rattle.std.proofs.lemmas.List.{length-map}
use Rattle.std.proofs.lemmas.List.Sorted.{IsPermutation-refl}
use Rattle.eleos_base.specs.declared.memory.Looked.{Looked}
use Rattle.eleos_base.specs.Places.{Owner}
use Rattle.eleos_base.specs.Ties.{Has}
use Rattle.eleos_core.specs.Legal.{CoreStep}
use Rattle.eleos_core.specs.Parts.{Stamp}
use Rattle.eleos_core.specs.Sweeps.{frames_in}
use Rattle.eleos_plot.specs.Histories.{history_of}
use Rattle.eleos_plot.specs.Terms.{core_terms}
use Rattle.eleos_turn.specs.Hands.{Goes, links_on}
use Rattle.eleos_turn.specs.Numbers.{less_one}
use Rattle.eleos_turn.proofs.Clients.{goes_given, goes_trans}
use Rattle.eleos_machine.specs.declared.holding.ClockTurn.{ClockTurn}
use Rattle.eleos_machine.specs.Holding.{HasClock}
use Rattle.eleos_machine.specs.Notes.{Sweep, cleared}
use Rattle.eleos_machine.specs.Passes.{IsLawful, PassState, gave, plan_of, seals_of}
use Rattle.eleos_clock.specs.Lists.{AllNoted}
use Rattle.eleos_clock.proofs.Lists.{times_alike}
use Rattle.eleos_swap.proofs.Notes.{shorter}
use Rattle.eleos_balloon.specs.declared.ends.BalloonEnd.{BalloonEnd}
use Rattle.eleos_balloon.specs.declared.ends.BalloonEnd.TheVariants.{Done, Short, Pinned}
use Rattle.eleos_balloon.specs.Ends.{EndsBy, IsOfWay, MaySurvey, Surveys, share_stamp}
use Rattle.eleos_balloon.specs.Gathers.{Gathering}
use Rattle.eleos_balloon.specs.Holds.{Holds}
use Rattle.eleos_balloon.specs.Shares.{EndsShare, MayEndGather, MayEndRelease}
use Rattle.eleos_balloon.proofs.Clocks.{few_listed}
use Rattle.eleos_balloon.proofs.Held.{clock_as, less_first}

-- with other notes
abbrev with_sweep : PassState → Sweep → PassState
with_sweep s sweep = record s { sweep = sweep }

-- the end, and what it makes of the notes
pub record Ended (s : PassState) (e : ℕ) (clock : ClockTurn) (to : ℕ) (gets : Bool) (end : BalloonEnd) (s' : PassState) : Type 0 where
  pub sweep : Sweep
  pub is : s' ≡ record s { sweep = sweep }
  pub may : MaySurvey (record s { sweep = sweep }) e clock to end
  pub way : IsOfWay gets end

-- lists that have the same numbers are as long
as_long : (xs ys : List ℕ) → IsPermutation xs ys → length xs ≤ length ys
as_long xs ys same = shorter xs ys (λ g. let a = times_alike xs ys same g in omega (arith, a))

module _ (s : PassState) (e : ℕ) (clock : ClockTurn) (to : ℕ) (law : IsLawful s) where
  -- where the enclave gave frames
  pub release_ended : (end : BalloonEnd) (reached : ℕ) (s' : PassState) → MayEndRelease s e clock to → reached ≡ length clock.clock → EndsBy s false reached to end s' → Ended s e clock to false end s'
  release_ended (Done share) reached s' may count ends = record {
    sweep = cleared true s.sweep;
    is = ends.2;
    may = record {
      actor = may.holds.actor;
      left = may.left;
      has = clock_as s (with_sweep s (cleared true s.sweep)) (Some e) clock refl may.holds.has.turn refl may.holds.has;
      since_survey = refl;
      few = omega arith;
      end_is = (ends.0 ∙ count, ends.0 ∙ ends.1, refl);
    };
    way = tt;
  }
  release_ended (Short share) reached s' may count ends = absurd (false≢true ends.2)
  release_ended (Pinned share) reached s' may count ends = record {
    sweep = s.sweep;
    is = ends.3;
    may = record {
      actor = may.holds.actor;
      left = may.left;
      has = clock_as s (with_sweep s s.sweep) (Some e) clock refl may.holds.has.turn refl may.holds.has;
      since_survey = may.holds.since_survey;
      few = (let a = as_long (frames_in s.sweep.words) clock.clock all.1.all in let b = length-map s.sweep.words (λ (seen : Looked). seen.frame) in let d = few_listed s law (Some e) clock may.holds.has in omega (arith, a, b, d));
      end_is = (ends.0 ∙ count, (let a = all.0 in let b = ends.0 in omega (arith, a, b, count)), record { all = all.1.all; taken = all.1.taken refl });
    };
    way = refl;
  } where
    all : (to < length clock.clock) × AllNoted clock.clock true s.sweep.words
    all = ⊎_elim (λ (same : length clock.clock ≡ to). absurd (ends.1 (count ∙ same))) (λ (rest : (to < length clock.clock) × AllNoted clock.clock true s.sweep.words). rest) may.stop

  -- where it got them
  pub gather_ended : (pool : ClockTurn) (end : BalloonEnd) (reached : ℕ) (s' : PassState) → MayEndGather s e clock pool to → reached ≡ length clock.clock → EndsBy s true reached to end s' → Ended s e clock to true end s'
  gather_ended pool (Done share) reached s' may count ends = record {
    sweep = cleared true s.sweep;
    is = ends.2;
    may = record {
      actor = may.holds.holds.actor;
      left = may.left;
      has = clock_as s (with_sweep s (cleared true s.sweep)) (Some e) clock refl may.holds.holds.has.turn refl may.holds.holds.has;
      since_survey = refl;
      few = omega arith;
      end_is = (ends.0 ∙ count, ends.0 ∙ ends.1, refl);
    };
    way = tt;
  }
  gather_ended pool (Pinned share) reached s' may count ends = absurd (false≢true (sym ends.2))
  gather_ended pool (Short share) reached s' may count ends = record {
    sweep = s.sweep;
    is = ends.3;
    may = record {
      actor = may.holds.holds.actor;
      left = may.left;
      has = clock_as s (with_sweep s s.sweep) (Some e) clock refl may.holds.holds.has.turn refl may.holds.holds.has;
      since_survey = may.holds.holds.since_survey;
      few = (let a = ap length all.1 in let b = length-map s.sweep.words (λ (seen : Looked). seen.frame) in let d = few_listed s law None pool may.holds.pool_has in omega (arith, a, b, d));
      end_is = (
        ends.0 ∙ count,
        (let a = all.0 in let b = ends.0 in omega (arith, a, b, count)),
        record {
          pool = pool;
          has = clock_as s (with_sweep s s.sweep) None pool refl may.holds.pool_has.turn refl may.holds.pool_has;
          short = record { all = subst (IsPermutation (frames_in s.sweep.words)) (sym all.1) (IsPermutation-refl (frames_in s.sweep.words)); busy = may.holds.tried.busy };
        },
      );
    };
    way = refl;
  } where
    all : (length clock.clock < to) × (pool.clock ≡ frames_in s.sweep.words)
    all = ⊎_elim (λ (same : length clock.clock ≡ to). absurd (ends.1 (count ∙ same))) (λ (rest : (length clock.clock < to) × (pool.clock ≡ frames_in s.sweep.words)). rest) may.stop

module _ (s : PassState) (e : ℕ) (clock : ClockTurn) (to : ℕ) (gets : Bool) (end : BalloonEnd) (s₁ : PassState) (ended : Ended s e clock to gets end s₁) where
  abbrev t : PassState
  t = record s { sweep = ended.sweep }

  -- the survey may be stamped
  pub may_end : MaySurvey s₁ e clock to end
  may_end = subst (λ (y : PassState). MaySurvey y e clock to end) (sym ended.is) ended.may

  module _ (s₂ : PassState) (did : Surveys s₁ e to end s₂) where
    did_at : Surveys t e to end s₂
    did_at = subst (λ (y : PassState). Surveys y e to end s₂) ended.is did

    -- a clock cell that was in hand is so still
    pub has_still : (o : Owner) (c : ClockTurn) → HasClock s o c → HasClock s₂ o c
    has_still o c has = did_at.clocks o c (clock_as s t o c refl has.turn refl has)

    stamp_is : share_stamp s.hand.number e to end ended.sweep.words ≡ share_stamp s.hand.number e to end s₂.sweep.words
    stamp_is = ap (λ (words : List Looked). share_stamp s.hand.number e to end words) (sym did_at.words)

    -- what is left of the pass, once its turns went back
    pub ends_at : (s₃ : PassState) → Goes core_terms s₂.hand s₃.hand [] → s₃ ≡ record s₂ { hand = s₃.hand } → s₃.hand.seen ≡ s₂.hand.seen → s₃.hand.turns ≡ [] → s₃.hand.pins ≡ s₂.hand.pins
        → ((c : ℕ) → links_on core_terms s₃.hand c ≡ links_on core_terms s₂.hand c) → EndsShare s e to gets end s₃
    ends_at s₃ goes rest seen turns pins links = record {
      past = did_at.past;
      goes = subst (λ (d : Stamp). Goes core_terms s.hand s₃.hand ((length did_at.past, d) ∷ [])) words_is
          (goes_trans core_terms s.hand s₂.hand s₃.hand ((length did_at.past, share_stamp s.hand.number e to end ended.sweep.words) ∷ []) [] did_at.goes goes);
      way = ended.way;
      sees = ap history_of seen ∙ (did_at.sees ∙ ap (λ (d : Stamp). d.entry ∷ did_at.past) words_is);
      legal = subst (λ (d : Stamp). CoreStep (plan_of s) (seals_of s) did_at.past d.entry) words_is did_at.legal;
      no_turn = turns;
      pins = pins ∙ did_at.pins;
      links = λ c. links c ∙ did_at.links c;
    } where
      words_is : share_stamp s.hand.number e to end ended.sweep.words ≡ share_stamp s.hand.number e to end s₃.sweep.words
      words_is = stamp_is ∙ ap (λ (words : List Looked). share_stamp s.hand.number e to end words) (sym (ap (λ (y : PassState). y.sweep.words) rest))

    -- the enclave's clock cell is in hand still, once the turn of the pool's went back
    pub clock_still : (pool : ClockTurn) → Gathering e clock pool s → (s₃ : PassState) → s₃ ≡ gave s₂ pool.number → HasClock s₃ (Some e) clock
    clock_still pool holds s₃ given = subst (λ (y : PassState). HasClock y (Some e) clock) (sym given) (clock_as s₂ (gave s₂ pool.number) (Some e) clock refl
        (subst (Has clock.number) (sym (ap (less_one pool.number) (did_at.turns ∙ holds.holds.turns) ∙ less_first pool.number (clock.number ∷ []))) (inl refl)) refl (has_still (Some e) clock holds.holds.has))

    -- one turn goes back
    pub ends_one : Holds e clock s → (s₃ : PassState) → s₃ ≡ gave s₂ clock.number → EndsShare s e to gets end s₃
    ends_one holds s₃ given = subst (EndsShare s e to gets end) (sym given) (ends_at (gave s₂ clock.number) (goes_given core_terms clock.number s₂.hand (gave s₂ clock.number).hand refl) refl refl
        (ap (less_one clock.number) (did_at.turns ∙ holds.turns) ∙ less_first clock.number []) refl (λ c. refl))

    -- two go back
    pub ends_two : (pool : ClockTurn) → Gathering e clock pool s → (s₃ s₄ : PassState) → s₃ ≡ gave s₂ pool.number → s₄ ≡ gave s₃ clock.number → EndsShare s e to gets end s₄
    ends_two pool holds s₃ s₄ given given' = subst (EndsShare s e to gets end) (sym (given' ∙ ap (λ (y : PassState). gave y clock.number) given)) (ends_at both
        (goes_trans core_terms s₂.hand (gave s₂ pool.number).hand both.hand [] [] (goes_given core_terms pool.number s₂.hand (gave s₂ pool.number).hand refl) (goes_given core_terms clock.number (gave s₂ pool.number).hand both.hand refl)) refl refl
        (ap (λ ts. less_one clock.number (less_one pool.number ts)) (did_at.turns ∙ holds.holds.turns) ∙ (ap (less_one clock.number) (less_first pool.number (clock.number ∷ [])) ∙ less_first clock.number [])) refl (λ c. refl))
      where
        both : PassState
        both = gave (gave s₂ pool.number) clock.number
