-- A free frame of the enclave goes to the pool.
use Rattle.std.proofs.Common.{◌≡◌, inl, inr, ⊎_elim, ℕ, ◌+◌, ◌<◌, [], ◌∷◌, length, Some, None, refl, sym, ◌∙◌, ap, subst, arith}
use Rattle.eleos_base.specs.Ties.{Has}
use Rattle.eleos_base.specs.declared.plan.Plan.{Plan}
use Rattle.eleos_base.specs.Places.{all_frames}
use Rattle.eleos_core.specs.Legal.{CoreStep, IsActor}
use Rattle.eleos_core.specs.Moves.{move_stamp}
use Rattle.eleos_core.specs.Parts.{Made, Part, clock_cell, frame_cell, holder_in, owner_in}
use Rattle.eleos_plot.specs.Cells.{part_of_cell}
use Rattle.eleos_plot.specs.Fits.{IsFrameCell}
use Rattle.eleos_plot.specs.Terms.{core_terms}
use Rattle.eleos_turn.specs.Hands.{Goes, entries}
use Rattle.eleos_turn.specs.Numbers.{less_one}
use Rattle.eleos_turn.proofs.Clients.{goes_given, goes_trans}
use Rattle.eleos_machine.specs.declared.holding.ClockTurn.{ClockTurn}
use Rattle.eleos_machine.specs.declared.holding.FreeFrame.{FreeFrame}
use Rattle.eleos_machine.specs.Holding.{HasClock, HasFree}
use Rattle.eleos_machine.specs.Machines.{Site, plan_at, seals_at}
use Rattle.eleos_machine.specs.Passes.{IsLawful, PassState, gave, last_stamp, part_seen, plan_of, seen}
use Rattle.eleos_balloon.specs.Holds.{MakesAll, TookPool}
use Rattle.eleos_balloon.specs.Moves.{HasMoved, MayMove}
use Rattle.eleos_balloon.specs.Releases.{MayRelease, Releases}
use Rattle.eleos_balloon.specs.Steps.{IsEntry}
use Rattle.eleos_balloon.proofs.Clocks.{distinct, owned_seen}
use Rattle.eleos_balloon.proofs.Leaving.{fewer_without}
use Rattle.eleos_balloon.proofs.Held.{clock_as, holds_on, last_is, less_first, less_other}

-- a free frame in hand, where all else may differ
pub free_as : (s s' : PassState) (free : FreeFrame) → s'.hand.home ≡ s.hand.home → Has (frame_cell (plan_of s) free.frame) s'.hand.turns → part_seen s' (frame_cell (plan_of s) free.frame) ≡ part_seen s (frame_cell (plan_of s) free.frame)
    → HasFree s free → HasFree s' free
free_as s s' free home turn same has = record {
  held = record {
    number = subst (λ (y : Site). free.frame < all_frames (plan_at y)) (sym home) has.held.number;
    turn = subst (λ (y : Site). Has (frame_cell (plan_at y) free.frame) s'.hand.turns) (sym home) turn;
    value = subst (λ (y : Site). part_of_cell free.cell ≡ part_seen s' (frame_cell (plan_at y) free.frame)) (sym home) (has.held.value ∙ sym same);
    fits = subst (λ (y : Site). IsFrameCell (plan_at y) free.cell) (sym home) has.held.fits;
  };
  empty = subst (λ (y : Site). holder_in (part_seen s' (frame_cell (plan_at y) free.frame)) ≡ None) (sym home) (ap (λ (q : Part). holder_in q) same ∙ has.empty);
}

module _ (e : ℕ) (clock : ClockTurn) (free : FreeFrame) (s : PassState) (may : MayRelease e clock free s) (law : IsLawful s) where
  abbrev f : ℕ
  f = free.frame

  abbrev k : Plan
  k = plan_of s

  abbrev fc : ℕ
  fc = frame_cell k f

  abbrev number : ℕ
  number = s.hand.number

  -- the pass does not have the turn of the pool's clock cell
  not_held : Has (clock_cell k None) s.hand.turns → ⊥
  not_held turn = ⊎_elim (λ (is : clock_cell k None ≡ fc). absurd (omega (arith, is)))
      (λ (more : Has (clock_cell k None) (clock.number ∷ [])). ⊎_elim
      (λ (is : clock_cell k None ≡ clock.number). absurd (let n = may.holds.has.number in let known = may.holds.has.known in omega (arith, is, n, known))) (λ (none : ⊥). absurd none) more)
      (subst (Has (clock_cell k None)) may.holds.turns turn)

  pub pool_free : (z : Site) → s.hand.home ≡ z → Has (clock_cell (plan_at z) None) s.hand.turns → ⊥
  pool_free z own turn = not_held (subst (λ (y : Site). Has (clock_cell (plan_at y) None) s.hand.turns) (sym own) turn)

  -- it has a number
  pub made : 0 < s.hand.number
  made = let one = may.holds.actor.from_one in omega (arith, one)

  module _ (pool : ClockTurn) (s₁ : PassState) (took : TookPool s pool s₁) where
    home₁ : s₁.hand.home ≡ s.hand.home
    home₁ = took.searches.goes.home

    number₁ : s₁.hand.number ≡ s.hand.number
    number₁ = took.searches.goes.number

    turns₁ : s₁.hand.turns ≡ pool.number ∷ fc ∷ clock.number ∷ []
    turns₁ = took.turns ∙ ap (λ ts. pool.number ∷ ts) may.holds.turns

    stays : (c : ℕ) → Has c s.hand.turns → Has c s₁.hand.turns
    stays c had = subst (Has c) (sym took.turns) (inr had)

    same : (c : ℕ) → Has c s.hand.turns → part_seen s₁ c ≡ part_seen s c
    same = took.searches.parts

    -- the frame may be moved
    pub may_move : 0 < s.hand.left → MayMove s₁ free (Some e) clock None pool
    may_move left = record {
      actor = subst (λ (y : Site × ℕ). IsActor (plan_at y.0) y.1) (λ i. (sym home₁ i, sym number₁ i)) may.holds.actor;
      left = (let a = took.searches.goes.left in omega (arith, a, left));
      free_is = free_as s s₁ free home₁ (stays fc may.free_is.held.turn) (same fc may.free_is.held.turn) may.free_is;
      from_has = clock_as s s₁ (Some e) clock home₁ (stays clock.number may.holds.has.turn) (same clock.number may.holds.has.turn) may.holds.has;
      to_has = took.has;
      one_is_pool = tt;
      owned = subst (λ (y : Site). owner_in (part_seen s₁ (frame_cell (plan_at y) f)) ≡ Some e) (sym home₁)
          (ap (λ (q : Part). owner_in q) (same fc may.free_is.held.turn) ∙ owned_seen s law (Some e) clock may.holds.has f may.listed);
    }

    module _ (s₂ : PassState) (clock' pool' : ClockTurn) (h : HasMoved s₁ f (Some e) clock None pool s₂ clock' pool') where
      home₂ : s₂.hand.home ≡ s.hand.home
      home₂ = h.goes.home ∙ home₁

      -- the turn of the pool's clock cell may go back
      pub pool_has : HasClock s₂ None pool'
      pool_has = h.to_has

      abbrev s₃ : PassState
      s₃ = gave s₂ pool'.number

      abbrev one : Made
      one = (length h.past, move_stamp number f (Some e) None)

      pool_is : pool.number ≡ clock_cell k None
      pool_is = took.has.number ∙ ap (λ (y : Site). clock_cell (plan_at y) None) home₁

      same_pool : pool'.number ≡ pool.number
      same_pool = ap (λ (y : ClockTurn). y.number) h.to_is

      same_clock : clock'.number ≡ clock.number
      same_clock = ap (λ (y : ClockTurn). y.number) h.from_is

      turns₂ : s₂.hand.turns ≡ pool.number ∷ clock.number ∷ []
      turns₂ = h.turns ∙ ((λ i. less_one (frame_cell (plan_at (home₁ i)) f) (turns₁ i))
          ∙ (less_other fc pool.number (fc ∷ clock.number ∷ []) (λ is. absurd (omega (arith, is, pool_is))) ∙ ap (λ ts. pool.number ∷ ts) (less_first fc (clock.number ∷ []))))

      turns₃ : s₃.hand.turns ≡ clock'.number ∷ []
      turns₃ = (λ i. less_one (same_pool i) (turns₂ i)) ∙ (less_first pool.number (clock.number ∷ []) ∙ ap (λ n. n ∷ []) (sym same_clock))

      goes : Goes core_terms s.hand s₃.hand (one ∷ [])
      goes = subst (λ n. Goes core_terms s.hand s₃.hand ((length h.past, move_stamp n f (Some e) None) ∷ [])) number₁
          (goes_trans core_terms s.hand s₁.hand s₃.hand [] ((length h.past, move_stamp s₁.hand.number f (Some e) None) ∷ []) took.searches.goes
          (goes_trans core_terms s₁.hand s₂.hand s₃.hand ((length h.past, move_stamp s₁.hand.number f (Some e) None) ∷ []) [] h.goes (goes_given core_terms pool'.number s₂.hand s₃.hand refl)))

      makes : MakesAll s (one ∷ []) s₃
      makes = record { goes = goes; pins = h.pins ∙ took.searches.pins; links = λ c. h.links c ∙ took.searches.links c }

      moved : IsEntry s.hand.home (seen s₃) one
      moved = record {
        past = h.past;
        place = refl;
        stands = ([], h.sees ∙ ap (λ n. (move_stamp n f (Some e) None).entry ∷ h.past) number₁);
        legal = subst (λ (y : Site × ℕ). CoreStep (plan_at y.0) (seals_at y.0) h.past (move_stamp y.1 f (Some e) None).entry) (λ i. (home₁ i, number₁ i)) h.legal;
      }

      released_at : Releases s e f clock (length h.past) s₃ clock'
      released_at = record {
        made = makes;
        moved = moved;
        holds = holds_on e (fc ∷ clock.number ∷ []) (clock'.number ∷ []) clock clock' s s₃ (one ∷ []) may.holds makes turns₃
            (clock_as s₂ s₃ (Some e) clock' refl (subst (Has clock'.number) (sym turns₃) (inl refl)) refl h.from_has)
            (h.since_survey ∙ (took.searches.since_survey ∙ may.holds.since_survey));
        list = ap (λ (y : ClockTurn). y.clock) h.from_is;
        fewer = ap (λ (y : ClockTurn). length y.clock + 1) h.from_is ∙ fewer_without f clock.clock (distinct s law (Some e) clock may.holds.has) may.listed;
      }

      -- the frame went
      pub released : (stamp : ℕ) (s' : PassState) → stamp ≡ last_stamp (entries core_terms s₂.hand) → s' ≡ gave s₂ pool'.number → Releases s e f clock stamp s' clock'
      released stamp s' is given = subst (λ (y : ℕ × PassState). Releases s e f clock y.0 y.1 clock') (λ i. (sym (is ∙ (ap last_stamp h.goes.own ∙ last_is (entries core_terms s₁.hand) (length h.past) (move_stamp s₁.hand.number f (Some e) None))) i, sym given i)) released_at
