-- A frame of the pool is tried: it goes to the enclave, or is noted as BUSY.
use Rattle.std.proofs.Common.{◌≡◌, ◌⊎◌, inl, inr, ⊎_elim, ℕ, ◌%◌, ◌<◌, ◌≤◌, ◌||◌, ◌&&◌, List, [], ◌∷◌, ◌++◌, length, Bool, true, false, not, nat_lt, Some, None, get_or, if◌then◌else◌, refl, sym, ◌∙◌, ap, subst, arith, append_assoc, length-append}
use Rattle.std.specs.List.{AllByRecursion}
use Rattle.std.proofs.lemmas.Bool.{eq-eqb}
use Rattle.std.proofs.lemmas.List.{length-map}
use Rattle.eleos_base.specs.declared.memory.Looked.{Looked}
use Rattle.eleos_base.specs.declared.plan.Plan.{Plan}
use Rattle.eleos_base.specs.Places.{all_frames}
use Rattle.eleos_base.specs.Ties.{Has}
use Rattle.eleos_base.specs.Words.{IsBusy, IsFree, is_busy, pins_in}
use Rattle.eleos_core.specs.Legal.{CoreStep, IsActor}
use Rattle.eleos_core.specs.Moves.{move_stamp}
use Rattle.eleos_core.specs.Parts.{Made, clock_cell, frame_cell, page_cell}
use Rattle.eleos_core.specs.Sweeps.{frames_in}
use Rattle.eleos_core.proofs.OpeningLists.{all_more}
use Rattle.eleos_plot.specs.declared.cell.Cell.{Cell}
use Rattle.eleos_plot.specs.Terms.{core_terms}
use Rattle.eleos_turn.specs.Hands.{Goes, entries, refused_at}
use Rattle.eleos_turn.specs.Numbers.{less_one, times}
use Rattle.eleos_turn.proofs.Clients.{goes_trans}
use Rattle.eleos_turn.proofs.Numbers.{times_here}
use Rattle.eleos_machine.specs.declared.holding.ClockTurn.{ClockTurn}
use Rattle.eleos_machine.specs.Holding.{HasClock, HasFree}
use Rattle.eleos_machine.specs.Machines.{Site, plan_at, seals_at}
use Rattle.eleos_machine.specs.Notes.{is_noted_free}
use Rattle.eleos_machine.specs.Passes.{IsLawful, PassState, TookTurn, last_stamp, plan_of}
use Rattle.eleos_machine.specs.Sweeping.{MaySweep, is_on_page, noted}
use Rattle.eleos_clock.specs.Searches.{MaySearch, Searches}
use Rattle.eleos_clock.proofs.Lists.{has_from, times_at}
use Rattle.eleos_clock.proofs.Noted.{frames_more, unnoted_free}
use Rattle.eleos_clock.proofs.Once.{once_in}
use Rattle.eleos_clock.proofs.Steps.{clock_kept, searches_other}
use Rattle.eleos_clock.proofs.Visiting as visits
use Rattle.eleos_balloon.specs.Gathers.{Gathering, GatheredNone, GatheredOne}
use Rattle.eleos_balloon.specs.Holds.{MakesAll}
use Rattle.eleos_balloon.specs.Moves.{HasMoved, MayMove}
use Rattle.eleos_balloon.proofs.Clocks.{distinct, few_of_machine, none_held, owned, owned_seen}
use Rattle.eleos_balloon.proofs.Held.{clock_as, holds_on, last_is, less_first, makes_searched}
use Rattle.eleos_balloon.proofs.Leaving.{behind, fewer_without, times_append, without_split}

-- its own cell: a word that shows BUSY is noted
noted_busy : (b busy noted_free : Bool) (f word : ℕ) (words : List Looked) → b ≡ false → busy ≡ true → noted_free ≡ false
    → (if (busy || (b && nat_lt 0 (pins_in word))) && not noted_free then words ++ record { frame = f; word = word } ∷ [] else words) ≡ words ++ record { frame = f; word = word } ∷ []
noted_busy b true false f word words off is free_is = refl
noted_busy b true true f word words off is free_is = cc
noted_busy b false noted_free f word words off is free_is = cc

module _ (e : ℕ) (clock pool : ClockTurn) (s : PassState) (h : Gathering e clock pool s) (law : IsLawful s) (more : length s.sweep.words < length pool.clock) where
  abbrev k : Plan
  k = plan_of s

  abbrev f : ℕ
  f = get_or pool.clock (length s.sweep.words) 0

  abbrev fc : ℕ
  fc = frame_cell k f

  -- the notes, the frame, and what is left behind it
  parts : (rest : List ℕ) × (pool.clock ≡ frames_in s.sweep.words ++ f ∷ rest)
  parts = let same = length-map s.sweep.words (λ (seen : Looked). seen.frame) in
      subst (λ n. (rest : List ℕ) × (pool.clock ≡ frames_in s.sweep.words ++ get_or pool.clock n 0 ∷ rest)) same
      (behind pool.clock (frames_in s.sweep.words) h.tried.first.0 h.tried.first.1 (omega (arith, same, more)))

  in_pool : Has f pool.clock
  in_pool = has_from f pool.clock (times_at pool.clock (length s.sweep.words) 0 more)

  -- it is one of the machine
  pub inside : f < all_frames k
  inside = (owned s law None pool h.pool_has f in_pool).0

  once : times f pool.clock ≤ 1
  once = once_in f pool.clock (distinct s law None pool h.pool_has)

  unnamed : times f (frames_in s.sweep.words) ≡ 0
  unnamed = let a = ap (times f) parts.1 in let b = times_append f (frames_in s.sweep.words) (f ∷ parts.0) in let c = times_here f parts.0 in omega (arith, a, b, c, once)

  unnoted : is_noted_free f s.sweep.words ≡ false
  unnoted = unnoted_free f s.sweep.words unnamed

  -- the turns that the pass has are of the two clock cells
  only : (c : ℕ) → Has c s.hand.turns → (c ≡ clock_cell k None) ⊎ (c ≡ clock_cell k (Some e))
  only c turn = ⊎_elim (λ (is : c ≡ pool.number). inl (is ∙ h.pool_has.number))
      (λ (later : Has c (clock.number ∷ [])). ⊎_elim (λ (is : c ≡ clock.number). inr (is ∙ h.holds.has.number)) (λ (none : ⊥). absurd none) later)
      (subst (Has c) h.holds.turns turn)

  may_search : MaySearch s.hand.home s clock
  may_search = record {
    look = record {
      own = refl;
      made = (let one = h.holds.actor.from_one in omega (arith, one));
      covered = h.holds.covered;
      absent = λ p lt turn. absurd (⊎_elim (λ (is : page_cell k p ≡ clock_cell k None). omega (arith, is))
          (λ (is : page_cell k p ≡ clock_cell k (Some e)). let known = h.holds.has.known in omega (arith, is, known)) (only (page_cell k p) turn));
    };
    no_frame = λ g lt turn. ⊎_elim (λ (is : frame_cell k g ≡ clock_cell k None). omega (arith, is))
        (λ (is : frame_cell k g ≡ clock_cell k (Some e)). let known = h.holds.has.known in omega (arith, is, known)) (only (frame_cell k g) turn);
    enclave = e;
    turn = h.holds.has;
  }

  -- its cell may be tried
  pub may_try : MaySweep s f fc
  may_try = visits.may_try s.hand.home s clock f may_search law inside unnoted (let a = few_of_machine s law None pool h.pool_has in omega (arith, a, more))

  -- it was busy
  module _ (word : ℕ) (busy : IsBusy word) where
    abbrev b : PassState
    b = record (noted s f fc word) { hand = refused_at s.hand fc word }

    words_is : b.sweep.words ≡ s.sweep.words ++ record { frame = f; word = word } ∷ []
    words_is = noted_busy (is_on_page s f fc) (is_busy word) (is_noted_free f s.sweep.words) f word s.sweep.words (ap not (eq-eqb fc fc refl)) (eq-eqb (word % 2) 1 busy) unnoted

    makes : MakesAll s [] b
    makes = makes_searched s b (searches_other s b.sweep.words b.hand)

    gathered_none : GatheredNone s e clock pool b clock pool
    gathered_none = record {
      made = makes;
      holds = record {
        holds = holds_on e (pool.number ∷ clock.number ∷ []) (pool.number ∷ clock.number ∷ []) clock clock s b [] h.holds makes h.holds.turns (clock_as s b (Some e) clock refl h.holds.has.turn refl h.holds.has) h.holds.since_survey;
        pool_has = clock_as s b None pool refl h.pool_has.turn refl h.pool_has;
        tried = record {
          first = (parts.0, parts.1 ∙ (sym (append_assoc (frames_in s.sweep.words) (f ∷ []) parts.0) ∙ ap (λ fs. fs ++ parts.0) (sym (ap frames_in words_is ∙ frames_more s.sweep.words (record { frame = f; word = word })))));
          busy = subst (AllByRecursion (λ (seen : Looked). is_busy seen.word ≡ true)) (sym words_is) (all_more (λ (seen : Looked). is_busy seen.word ≡ true) s.sweep.words (record { frame = f; word = word }) h.tried.busy (eq-eqb (word % 2) 1 busy));
        };
      };
      same = refl;
      same_pool = refl;
      fewer = (let a = ap length words_is in let d = length-append s.sweep.words (record { frame = f; word = word } ∷ []) in omega (arith, a, d, more));
    }

  pub found_busy : (word : ℕ) (s' : PassState) → IsBusy word → s' ≡ record (noted s f fc word) { hand = refused_at s.hand fc word } → GatheredNone s e clock pool s' clock pool
  found_busy word s' busy is = subst (λ (y : PassState). GatheredNone s e clock pool y clock pool) (sym is) (gathered_none word busy)

  -- its turn was taken
  module _ (word : ℕ) (x : Cell) (s₁ : PassState) (free_word : IsFree word) (took : TookTurn fc word (noted s f fc word) x s₁) (law₁ : IsLawful s₁) where
    searches : Searches s s₁
    searches = visits.searches s.hand.home s clock f may_search law inside unnoted word x s₁ free_word took law₁

    home₁ : s₁.hand.home ≡ s.hand.home
    home₁ = searches.goes.home

    number₁ : s₁.hand.number ≡ s.hand.number
    number₁ = searches.goes.number

    turns₁ : s₁.hand.turns ≡ fc ∷ pool.number ∷ clock.number ∷ []
    turns₁ = visits.turns s.hand.home s clock f may_search law inside unnoted word x s₁ free_word took law₁ ∙ ap (λ ts. fc ∷ ts) h.holds.turns

    words₁ : s₁.sweep.words ≡ s.sweep.words
    words₁ = visits.words s.hand.home s clock f may_search law inside unnoted word x s₁ free_word took law₁

    pool₁ : HasClock s₁ None pool
    pool₁ = clock_kept s s₁ None pool searches (subst (Has pool.number) (sym turns₁) (inr (inl refl))) h.pool_has

    clock₁ : HasClock s₁ (Some e) clock
    clock₁ = clock_kept s s₁ (Some e) clock searches (subst (Has clock.number) (sym turns₁) (inr (inr (inl refl)))) h.holds.has

    has_free : HasFree s₁ (record { frame = f; cell = x })
    has_free = record { held = visits.has s.hand.home s clock f may_search law inside unnoted word x s₁ free_word took law₁; empty = none_held s₁ law₁ None pool pool₁ refl f in_pool }

    -- it may be moved
    pub may_move : 0 < s.hand.left → MayMove s₁ (record { frame = f; cell = x }) None pool (Some e) clock
    may_move left = record {
      actor = subst (λ (y : Site × ℕ). IsActor (plan_at y.0) y.1) (λ i. (sym home₁ i, sym number₁ i)) h.holds.actor;
      left = (let a = searches.goes.left in omega (arith, a, left));
      free_is = has_free;
      from_has = pool₁;
      to_has = clock₁;
      one_is_pool = tt;
      owned = owned_seen s₁ law₁ None pool pool₁ f in_pool;
    }

    module _ (s₂ : PassState) (pool' clock' : ClockTurn) (m : HasMoved s₁ f None pool (Some e) clock s₂ pool' clock') where
      abbrev one : Made
      one = (length m.past, move_stamp s.hand.number f None (Some e))

      turns₂ : s₂.hand.turns ≡ pool'.number ∷ clock'.number ∷ []
      turns₂ = m.turns ∙ ((λ i. less_one (frame_cell (plan_at (home₁ i)) f) (turns₁ i)) ∙ (less_first fc (pool.number ∷ clock.number ∷ []) ∙ (λ i. (sym m.from_is i).number ∷ (sym m.to_is i).number ∷ [])))

      makes₂ : MakesAll s (one ∷ []) s₂
      makes₂ = record {
        goes = subst (λ n. Goes core_terms s.hand s₂.hand ((length m.past, move_stamp n f None (Some e)) ∷ [])) number₁
            (goes_trans core_terms s.hand s₁.hand s₂.hand [] ((length m.past, move_stamp s₁.hand.number f None (Some e)) ∷ []) searches.goes m.goes);
        pins = m.pins ∙ searches.pins;
        links = λ c. m.links c ∙ searches.links c;
      }

      words₂ : s₂.sweep.words ≡ s.sweep.words
      words₂ = m.words ∙ words₁

      went_at : GatheredOne s e clock pool (record { evicted = None; frame = f; stamp = length m.past }) s₂ clock' pool'
      went_at = record {
        made = makes₂;
        moved = record {
          past = m.past;
          place = refl;
          stands = ([], m.sees ∙ ap (λ n. (move_stamp n f None (Some e)).entry ∷ m.past) number₁);
          legal = subst (λ (y : Site × ℕ). CoreStep (plan_at y.0) (seals_at y.0) m.past (move_stamp y.1 f None (Some e)).entry) (λ i. (home₁ i, number₁ i)) m.legal;
        };
        one_way = refl;
        frame = refl;
        holds = record {
          holds = holds_on e (pool.number ∷ clock.number ∷ []) (pool'.number ∷ clock'.number ∷ []) clock clock' s s₂ (one ∷ []) h.holds makes₂ turns₂ m.to_has (m.since_survey ∙ (searches.since_survey ∙ h.holds.since_survey));
          pool_has = m.from_has;
          tried = record {
            first = (parts.0, ap (λ (y : ClockTurn). y.clock) m.from_is ∙ (without_split f pool.clock (frames_in s.sweep.words) parts.0 parts.1 once ∙ ap (λ (ws : List Looked). frames_in ws ++ parts.0) (sym words₂)));
            busy = subst (AllByRecursion (λ (seen : Looked). is_busy seen.word ≡ true)) (sym words₂) h.tried.busy;
          };
        };
        list = ap (λ (y : ClockTurn). y.clock) m.to_is;
        fewer = (let a = ap length (ap (λ (y : ClockTurn). y.clock) m.from_is) in let b = fewer_without f pool.clock (distinct s law None pool h.pool_has) in_pool in let d = ap length words₂ in omega (arith, a, b, d, more));
      }

      -- it went
      pub went_over : (stamp : ℕ) → stamp ≡ last_stamp (entries core_terms s₂.hand) → GatheredOne s e clock pool (record { evicted = None; frame = f; stamp = stamp }) s₂ clock' pool'
      went_over stamp is = subst (λ n. GatheredOne s e clock pool (record { evicted = None; frame = f; stamp = n }) s₂ clock' pool')
          (sym (is ∙ (ap last_stamp m.goes.own ∙ last_is (entries core_terms s₁.hand) (length m.past) (move_stamp s₁.hand.number f None (Some e))))) went_at
