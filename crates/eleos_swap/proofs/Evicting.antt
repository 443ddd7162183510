-- One page leaves its frame.
use Rattle.std.proofs.Common.{◌≡◌, ◌≢◌, inl, inr, ℕ, ◌<◌, ◌≤◌, List, [], ◌∷◌, ◌++◌, length, true, false, cond, Some, None, Result, Ok, Err, refl, sym, ◌∙◌, ap, subst, arith, length-append}
use Rattle.std.specs.List.{AllByRecursion}
use Rattle.std.proofs.lemmas.Bool.{eq-eqb}
use Rattle.eleos_base.specs.declared.memory.Looked.{Looked}
use Rattle.eleos_base.specs.Ties.{Has}
use Rattle.eleos_core.specs.Legal.{CoreStep}
use Rattle.eleos_core.specs.Applying.{puts_of}
use Rattle.eleos_core.specs.Parts.{Made, Part, Stamp, frame_cell, frame_in, page_cell}
use Rattle.eleos_base.specs.Places.{all_frames, all_pages}
use Rattle.eleos_core.specs.Sweeps.{frames_in}
use Rattle.eleos_core.specs.Evicts.{evict_stamp}
use Rattle.eleos_host.specs.declared.port.HostPort.{Ghosts}
use Rattle.eleos_host.specs.declared.port.HostStore as store
use Rattle.eleos_host.specs.Taps.{TapState}
use Rattle.eleos_plot.specs.Terms.{core_terms}
use Rattle.eleos_turn.specs.Hands.{Goes, entries}
use Rattle.eleos_turn.specs.Numbers.{less_one, times}
use Rattle.eleos_pages.specs.Evicted.{HasEvicted}
use Rattle.eleos_pages.specs.Crossed.{HasCrossed}
use Rattle.eleos_plot.specs.Cells.{is_hand_within}
use Rattle.eleos_turn.proofs.Clients.{goes_trans}
use Rattle.eleos_machine.specs.declared.holding.ClockTurn.{ClockTurn}
use Rattle.eleos_machine.specs.declared.holding.FreeFrame.{FreeFrame}
use Rattle.eleos_machine.specs.declared.holding.SolePage.{SolePage}
use Rattle.eleos_machine.specs.Holding.{HasSole}
use Rattle.eleos_machine.specs.Machines.{Site, plan_at, seals_at}
use Rattle.eleos_machine.specs.Notes.{Sweep, cleared, free_notes, is_noted_free}
use Rattle.eleos_machine.specs.Passes.{IsLawful, PassState, last_stamp, part_seen, plan_of, seen}
use Rattle.eleos_clock.specs.declared.found.Found.TheVariants.{Sole}
use Rattle.eleos_clock.specs.declared.found.Found.{Found}
use Rattle.eleos_clock.specs.declared.found.NoVictim.{NoVictim}
use Rattle.eleos_clock.specs.Answered.{Answers, FoundNone, FoundThere}
use Rattle.eleos_clock.specs.Frees.{AreFree, NotedFree, free_note}
use Rattle.eleos_clock.specs.Lists.{AreNotes}
use Rattle.eleos_clock.specs.Searches.{MaySearch}
use Rattle.eleos_clock.proofs.Lists.{times_at}
use Rattle.eleos_clock.proofs.Noted.{fewer}
use Rattle.eleos_clock.proofs.Noting.{add_free, in_list, room_free}
use Rattle.eleos_clock.proofs.Owned.{hand_stays}
use Rattle.eleos_clock.proofs.Seen.{list_distinct}
use Rattle.eleos_swap.specs.declared.evicts.Evicted.{Evicted}
use Rattle.eleos_swap.specs.Evicts.{EvictedNone, EvictedOne}
use Rattle.eleos_swap.specs.Making.{HandMoves, IsEvict, Makes}
use Rattle.eleos_swap.proofs.Notes.{all_kept, keeps_noted, kept_zero, noted_append, noted_kept, noted_last}
use Rattle.eleos_swap.proofs.Steps.{makes_none, seen_on}

-- what a search noted says nothing of a page in hand
pub sole_on : (s : PassState) (w : Sweep) (sole : SolePage) → HasSole s sole → HasSole (record s { sweep = w }) sole
sole_on s w sole has = record {
  page = record { number = has.page.number; turn = has.page.turn; value = has.page.value; fits = has.page.fits };
  frame = record { number = has.frame.number; turn = has.frame.turn; value = has.frame.value; fits = has.frame.fits };
  in_frame = has.in_frame;
  clean = has.clean;
  no_link = has.no_link;
}

-- notes that are all of free frames let a search begin
as_notes : (ws : List Looked) → AllByRecursion (λ (seen : Looked). seen.word ≡ 0) ws → AllByRecursion Rattle.eleos_clock.specs.Lists.IsNote ws
as_notes [] all = tt
as_notes (w ∷ ws) all = (inl all.0, as_notes ws all.1)

-- a search may begin
pub search_notes : (list : List ℕ) (ws : List Looked) → AreFree list ws → AreNotes list false (free_notes ws)
search_notes list ws free = subst (AreNotes list false) (sym (all_kept ws free.free)) (record { once = free.once; notes = as_notes ws free.free; taken = λ wrong. absurd (cc) })

-- one more is the last
last_is : (xs : List Made) (n : ℕ) (d : Stamp) → last_stamp (xs ++ (n, d) ∷ []) ≡ n
last_is [] n d = refl
last_is (x ∷ []) n d = refl
last_is (x ∷ y ∷ xs) n d = last_is (y ∷ xs) n d

-- the hand stays within the list
pub hand_moves : (clock clock' : ClockTurn) (s s' : PassState) (r : Result Found NoVictim) → is_hand_within clock.clock clock.hand ≡ true → clock' ≡ record clock { hand = clock'.hand } → Answers s clock.clock clock.hand false r s' clock'.hand → HandMoves clock clock'
hand_moves clock clock' s s' (Ok found) within same at = record { same = same; within = subst (λ hand. is_hand_within clock.clock hand ≡ true) (sym at.moves) (hand_stays clock.clock clock.hand at.place found within) }
hand_moves clock clock' s s' (Err none) within same at = record { same = same; within = ap (is_hand_within clock.clock) at.stays ∙ within }

-- there was none
pub none_left : (s s' : PassState) (list : List ℕ) (hand hand' : ℕ) → FoundNone s list hand false s' hand' → EvictedNone s list s'
none_left s s' list hand hand' none = record {
  makes = makes_none s s' none.searches none.turns;
  noted = none.noted;
  keeps = keeps_noted s.sweep.words s'.sweep.words none.keeps;
}

module _ (z : Site) (s : PassState) (clock : ClockTurn) (may : MaySearch z s clock) (law : IsLawful s) (free_before : AreFree clock.clock s.sweep.words)
    (sole : SolePage) (hand hand' : ℕ) (s₁ : PassState) (found : FoundThere s clock.clock hand false (Sole sole) s₁ hand') where
  abbrev f : ℕ
  f = sole.frame

  listed : 1 ≤ times f clock.clock
  listed = subst (λ g. 1 ≤ times g clock.clock) (sym found.there.0) (times_at clock.clock found.place 0 found.inside)

  unnamed : times f (frames_in s₁.sweep.words) ≡ 0
  unnamed = ap (λ g. times g (frames_in s₁.sweep.words)) found.there.0 ∙ found.fresh refl

  home₁ : s₁.hand.home ≡ s.hand.home
  home₁ = found.there.1.searches.goes.home

  -- the notes that are no zeros are forgotten
  abbrev s₂ : PassState
  s₂ = record s₁ { sweep = cleared false s₁.sweep }

  kept_free : AreFree clock.clock s₂.sweep.words
  kept_free = record { once = found.notes.once; free = kept_zero s₁.sweep.words }

  kept_unnamed : times f (frames_in s₂.sweep.words) ≡ 0
  kept_unnamed = let a = fewer f s₁.sweep.words in omega (arith, a, unnamed)

  module _ {P : Type 0} (port : Ghosts P) (host : store.Ghosts P) (before : TapState P) (free : FreeFrame) (puts : ℕ) (s₃ : PassState) (tap : TapState P) (h : HasEvicted port host s₂ before sole free puts s₃ tap) where
    words₃ : s₃.sweep.words ≡ free_notes s₁.sweep.words
    words₃ = ap (λ (y : PassState). y.sweep.words) h.entered.rest

    -- the frame is not noted yet
    pub unnoted : times free.frame (frames_in s₃.sweep.words) ≡ 0
    unnoted = (λ i. times (h.frame i) (frames_in (words₃ i))) ∙ kept_unnamed

    -- and there is room for its note
    pub room : length s₃.sweep.words < all_frames (plan_at z)
    room = subst (λ (y : Site). length s₃.sweep.words < all_frames (plan_at y)) may.look.own (subst (λ ws. length ws < all_frames (plan_of s)) (sym words₃)
        (room_free clock.clock (free_notes s₁.sweep.words) f (all_frames (plan_of s)) (list_distinct s law may.enclave clock may.turn) (in_list z s clock may law) listed kept_unnamed kept_free))

    module _ (s₄ : PassState) (n : NotedFree s₃ free.frame s₄) where
      abbrev pc : ℕ
      pc = page_cell (plan_of s) sole.page

      abbrev fc : ℕ
      fc = frame_cell (plan_of s) f

      home₃ : s₃.hand.home ≡ s.hand.home
      home₃ = h.entered.goes.home ∙ home₁

      number₁ : s₁.hand.number ≡ s.hand.number
      number₁ = found.there.1.searches.goes.number

      less_first : (c : ℕ) (cs : List ℕ) → less_one c (c ∷ cs) ≡ cs
      less_first c cs = ap (λ v. cond v cs (c ∷ less_one c cs)) (eq-eqb c c refl)

      turns₃ : s₃.hand.turns ≡ fc ∷ s.hand.turns
      turns₃ = h.entered.turns ∙ ((λ i. less_one (page_cell (plan_at (home₁ i)) sole.page) (found.there.1.turns i)) ∙ less_first pc (fc ∷ s.hand.turns))

      turns₄ : s₄.hand.turns ≡ s.hand.turns
      turns₄ = n.turns ∙ ((λ i. less_one (frame_cell (plan_at (home₃ i)) (h.frame i)) (turns₃ i)) ∙ less_first fc s.hand.turns)

      words₄ : s₄.sweep.words ≡ free_notes s₁.sweep.words ++ free_note f ∷ []
      words₄ = n.words ∙ (λ i. words₃ i ++ free_note (h.frame i) ∷ [])

      page_lt : sole.page < all_pages (plan_of s)
      page_lt = subst (λ (y : Site). sole.page < all_pages (plan_at y)) home₁ found.there.1.has.page.number

      frame_lt : f < all_frames (plan_of s)
      frame_lt = subst (λ (y : Site). f < all_frames (plan_at y)) home₁ found.there.1.has.frame.number

      in_frame : frame_in (part_seen s₁ pc) ≡ Some f
      in_frame = subst (λ (y : Site). frame_in (part_seen s₁ (page_cell (plan_at y) sole.page)) ≡ Some f) home₁ found.there.1.has.in_frame

      -- a turn that the pass had is neither of the page nor of the frame
      no_page : (c : ℕ) → Has c s.hand.turns → c ≢ page_cell (plan_of s₂) sole.page
      no_page c had is =
          let at : c ≡ pc = is ∙ ap (λ (y : Site). page_cell (plan_at y) sole.page) home₁ in
          let turn = subst (λ d. Has d s.hand.turns) at had in
          let wrong : Some f ≡ None = sym in_frame ∙ (ap (λ (q : Part). frame_in q) (found.there.1.searches.parts pc turn) ∙ may.look.absent sole.page page_lt turn) in cc

      no_frame : (c : ℕ) → Has c s.hand.turns → c ≢ frame_cell (plan_of s₂) f
      no_frame c had is = may.no_frame f frame_lt (subst (λ d. Has d s.hand.turns) (is ∙ ap (λ (y : Site). frame_cell (plan_at y) f) home₁) had)

      abbrev number : ℕ
      number = s.hand.number

      abbrev one : Made
      one = (length h.entered.past, evict_stamp number sole.page f)

      goes : Goes core_terms s.hand s₄.hand (one ∷ [])
      goes = subst (λ k. Goes core_terms s.hand s₄.hand ((length h.entered.past, evict_stamp k sole.page f) ∷ [])) number₁
          (goes_trans core_terms s.hand s₁.hand s₄.hand [] ((length h.entered.past, evict_stamp s₁.hand.number sole.page f) ∷ []) found.there.1.searches.goes
          (goes_trans core_terms s₁.hand s₃.hand s₄.hand ((length h.entered.past, evict_stamp s₁.hand.number sole.page f) ∷ []) [] h.entered.goes n.searches.goes))

      makes : Makes s (one ∷ []) s₄
      makes = record {
        goes = goes;
        turns = turns₄;
        pins = n.searches.pins ∙ (h.entered.pins ∙ found.there.1.searches.pins);
        links = λ c. n.searches.links c ∙ (h.entered.links c ∙ found.there.1.searches.links c);
        pointers = n.searches.pointers ∙ (ap (λ (y : PassState). y.pointers) h.entered.rest ∙ found.there.1.searches.pointers);
        parts = λ c had. n.searches.parts c (subst (Has c) (sym turns₃) (inr had))
            ∙ (h.parts c (subst (Has c) (sym found.there.1.turns) (inr (inr had))) (no_page c had) (no_frame c had)
            ∙ found.there.1.searches.parts c had);
        since_survey = n.searches.since_survey ∙ (ap (λ (y : PassState). y.sweep.since_survey) h.entered.rest ∙ found.there.1.searches.since_survey);
      }

      is : IsEvict s.hand.home (seen s₄) s₄.sweep.words number one
      is = record {
        page = sole.page;
        frame = f;
        is = refl;
        noted = ap (is_noted_free f) words₄ ∙ noted_last f (free_notes s₁.sweep.words);
        past = h.entered.past;
        place = refl;
        stands = let more = seen_on s₃ s₄ [] n.searches.goes in (more.0, more.1 ∙ ap (λ all. more.0 ++ all) (h.entered.sees ∙ ap (λ k. (evict_stamp k sole.page f).entry ∷ h.entered.past) number₁));
        legal = subst (λ (y : Site × ℕ). CoreStep (plan_at y.0) (seals_at y.0) h.entered.past (evict_stamp y.1 sole.page f).entry) (λ i. (home₁ i, number₁ i)) h.entered.legal;
      }

      -- the pass's last stamp is that of the evict
      pub stamp_is : last_stamp (entries core_terms s₄.hand) ≡ length h.entered.past
      stamp_is = ap last_stamp goes.own ∙ last_is (entries core_terms s.hand) (length h.entered.past) (evict_stamp number sole.page f)

      -- the page was evicted
      pub evicted_exact : EvictedOne port host s before clock.clock (record { stamp = length h.entered.past; page = sole.page; frame = f; puts = puts }) s₄ tap
      unfolding is
      evicted_exact = record {
        makes = makes;
        is = is;
        crossed = subst (λ (y : Site × ℕ). HasCrossed port host before tap [] (puts_of (plan_at y.0) (seals_at y.0) (evict_stamp y.1 sole.page f).entry h.entered.past)) (λ i. (home₁ i, number₁ i)) h.crossed;
        count = h.count ∙ (λ i. length (puts_of (plan_at (home₁ i)) (seals_at (home₁ i)) (evict_stamp (number₁ i) sole.page f).entry h.entered.past));
        free = subst (AreFree clock.clock) (sym words₄) (add_free clock.clock (free_notes s₁.sweep.words) f listed kept_unnamed kept_free);
        keeps = λ g noted. ap (is_noted_free g) words₄ ∙ noted_append g (free_notes s₁.sweep.words) (free_note f ∷ []) (noted_kept g s₁.sweep.words (keeps_noted s.sweep.words s₁.sweep.words found.keeps g noted));
        grown =
            let a = ap length words₄ in let b = length-append (free_notes s₁.sweep.words) (free_note f ∷ []) in
            let c = ap length found.keeps.1 in let d = length-append (free_notes s.sweep.words) found.keeps.0 in
            let e = ap length (all_kept s.sweep.words free_before.free) in omega (arith, a, b, c, d, e);
      }

      -- as the call answers it
      pub evicted : (stamp : ℕ) → stamp ≡ last_stamp (entries core_terms s₄.hand) → EvictedOne port host s before clock.clock (record { stamp = stamp; page = sole.page; frame = free.frame; puts = puts }) s₄ tap
      evicted stamp e = subst (λ (y : Evicted). EvictedOne port host s before clock.clock y s₄ tap) (λ i. record { stamp = sym (e ∙ stamp_is) i; page = sole.page; frame = sym h.frame i; puts = puts }) evicted_exact
