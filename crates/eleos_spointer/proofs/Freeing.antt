-- A frame for an absent page: what a search found, once the page that was in it is gone.
use Rattle.std.proofs.Common.{◌≡◌, ◌≢◌, ◌⊎◌, inl, inr, ⊎_elim, ℕ, ◌<◌, ◌≤◌, List, [], ◌∷◌, length, true, Option, Some, None, refl, sym, ◌∙◌, ap, subst, arith}
use Rattle.eleos_base.specs.declared.plan.Plan.{Plan}
use Rattle.eleos_base.specs.Places.{all_pages, home_of, page_of, sub_of}
use Rattle.eleos_base.specs.Plans.{IsCaller}
use Rattle.eleos_base.specs.Ties.{Has}
use Rattle.eleos_core.specs.declared.event.Wanted.{Wanted}
use Rattle.eleos_core.specs.Applying.{puts_of}
use Rattle.eleos_core.specs.Evicts.{evict_stamp}
use Rattle.eleos_core.specs.Legal.{CoreStep, IsOwner}
use Rattle.eleos_core.specs.Parts.{Made, Part, block_at, clock_cell, frame_cell, frame_in, owner_in, page_cell, wanted_refusal_in}
use Rattle.eleos_core.specs.State.{address_of}
use Rattle.eleos_plot.specs.Fits.{IsPageCell}
use Rattle.eleos_host.specs.declared.port.HostPort.{Ghosts}
use Rattle.eleos_host.specs.declared.port.HostStore as store
use Rattle.eleos_host.specs.Taps.{TapState}
use Rattle.eleos_turn.specs.Numbers.{less_one, times}
use Rattle.eleos_turn.proofs.Numbers.{has_less}
use Rattle.eleos_machine.specs.declared.holding.ClockTurn.{ClockTurn}
use Rattle.eleos_machine.specs.declared.holding.FreeFrame.{FreeFrame}
use Rattle.eleos_machine.specs.declared.holding.HeldPage.{HeldPage}
use Rattle.eleos_machine.specs.declared.holding.SolePage.{SolePage}
use Rattle.eleos_machine.specs.Holding.{HasClock, frame_seen}
use Rattle.eleos_machine.specs.Machines.{Site, plan_at, seals_at}
use Rattle.eleos_machine.specs.Notes.{free_notes}
use Rattle.eleos_machine.specs.Passes.{IsLawful, PassState, gave, part_seen, plan_of, seen}
use Rattle.eleos_pages.specs.Crossed.{HasCrossed}
use Rattle.eleos_pages.specs.Evicted.{HasEvicted}
use Rattle.eleos_pages.proofs.HeldCells.{cells_differ}
use Rattle.eleos_clock.specs.declared.found.Found.{Found}
use Rattle.eleos_clock.specs.declared.found.Found.TheVariants.{Free, Sole}
use Rattle.eleos_clock.specs.Answered.{FoundIn, FoundNone, IsOwned}
use Rattle.eleos_clock.specs.Lists.{AreNotes}
use Rattle.eleos_clock.specs.Searches.{MaySearch, Searches}
use Rattle.eleos_spointer.specs.Brought.{Frees, HasFound, HasFreed, IsWanted, MayBring, MayPutIn, MayStarve, cell_of_held}
use Rattle.eleos_spointer.specs.Reached.{Reaches, Stands}
use Rattle.eleos_spointer.proofs.Reaching.{reaches_entered, reaches_gave, reaches_searched, reaches_then}
use Rattle.eleos_spointer.proofs.Starving.{less_first, less_second}

-- what is wanted of a page in hand stays so while the page's turn is held and its part stays
pub wants_then : (z : Site) (s s' : PassState) (page : HeldPage) (wanted : Wanted) → IsWanted z s page wanted → s'.hand.home ≡ s.hand.home → s'.hand.number ≡ s.hand.number
    → Has (cell_of_held s page) s'.hand.turns → part_seen s' (cell_of_held s page) ≡ part_seen s (cell_of_held s page) → IsWanted z s' page wanted
wants_then z s s' page wanted may home number turn part =
    let same : part_seen s' (cell_of_held s' page) ≡ part_seen s (cell_of_held s page) = ap (λ (y : Site). part_seen s' (page_cell (plan_at y) page.page)) home ∙ part in record {
      own = home ∙ may.own;
      caller = subst (λ (y : Site × ℕ). IsCaller (plan_at y.0) y.1) (λ i. (sym home i, sym number i)) may.caller;
      has = record {
        number = subst (λ (y : Site). page.page < all_pages (plan_at y)) (sym home) may.has.number;
        turn = subst (λ (y : Site). Has (page_cell (plan_at y) page.page) s'.hand.turns) (sym home) turn;
        value = may.has.value ∙ sym same;
        fits = subst (λ (y : Site). IsPageCell (plan_at y) page.cell) (sym home) may.has.fits;
      };
      needs = may.needs;
      page_is = may.page_is ∙ ap (λ (y : Site). page_of (plan_at y) (sub_of (plan_at y) (address_of wanted))) (sym home);
      accepted = subst (λ (q : Part). wanted_refusal_in (plan_of s') s'.hand.number wanted (block_at (plan_of s') q (address_of wanted)) ≡ None) (sym same)
          (subst (λ (y : Site × ℕ). wanted_refusal_in (plan_at y.0) y.1 wanted (block_at (plan_at y.0) (part_seen s (cell_of_held s page)) (address_of wanted)) ≡ None) (λ i. (sym home i, sym number i)) may.accepted);
    }

-- so does that it is absent
pub absent_then : (s s' : PassState) (p : ℕ) → s'.hand.home ≡ s.hand.home → part_seen s' (page_cell (plan_of s) p) ≡ part_seen s (page_cell (plan_of s) p) → frame_seen s p ≡ None → frame_seen s' p ≡ None
absent_then s s' p home part absent = ap (λ (y : Site). frame_in (part_seen s' (page_cell (plan_at y) p))) home ∙ (ap frame_in part ∙ absent)

module _ (z : Site) (s : PassState) (page : HeldPage) (clock : ClockTurn) (wanted : Wanted) (may : MayBring z s page clock wanted) where
  abbrev k : Plan
  k = plan_of s

  abbrev cell : ℕ
  cell = cell_of_held s page

  -- the clock cell is no page's and no frame's
  clock_no_page : (p : ℕ) → clock.number ≢ page_cell k p
  clock_no_page p same = let is = may.clock_is.number in let known = may.clock_is.known in omega (arith, is, known, same)

  clock_no_frame : (f : ℕ) → clock.number ≢ frame_cell k f
  clock_no_frame f same = let is = may.clock_is.number in let known = may.clock_is.known in omega (arith, is, known, same)

  -- the pass has just these turns
  only : (c : ℕ) → Has c s.hand.turns → (c ≡ clock.number) ⊎ (c ≡ cell)
  only c turn = ⊎_elim (λ (e : c ≡ clock.number). inl e) (λ (more : Has c (cell ∷ [])). ⊎_elim (λ (e : c ≡ cell). inr e) (λ (none : ⊥). absurd none) more) (subst (Has c) may.turns turn)

  page_turn : Has cell s.hand.turns
  page_turn = may.wants.has.turn

  -- a search may begin
  pub may_search : MaySearch z s clock
  may_search = record {
    look = record {
      own = may.wants.own;
      made = let one = may.wants.caller.from_one in omega (arith, one);
      covered = may.covered;
      absent = λ p lt turn. ⊎_elim (λ (e : page_cell k p ≡ clock.number). absurd (clock_no_page p (sym e)))
          (λ (e : page_cell k p ≡ cell). subst (λ (q : ℕ). frame_seen s q ≡ None) (let same : page.page ≡ p = omega (arith, e) in same) may.absent) (only (page_cell k p) turn);
    };
    no_frame = λ f lt turn. ⊎_elim (λ (e : frame_cell k f ≡ clock.number). clock_no_frame f (sym e))
        (λ (e : frame_cell k f ≡ cell). cells_differ k page.page f may.wants.has.number (sym e)) (only (frame_cell k f) turn);
    enclave = may.home;
    turn = may.clock_is;
  }

  -- nothing is noted yet
  pub no_notes : AreNotes clock.clock true (free_notes s.sweep.words)
  no_notes = subst (λ ws. AreNotes clock.clock true (free_notes ws)) (sym may.no_words) (record { once = λ f. (let none : 0 ≤ times f clock.clock = omega arith in none); notes = tt; taken = λ _. tt })

  -- the search found no frame
  module _ (clock' : ClockTurn) (s₁ : PassState) (none : FoundNone s clock.clock clock.hand true s₁ clock'.hand) (clock_is : clock' ≡ record clock { hand = clock'.hand }) (held : HasClock s₁ (Some may.home) clock') where
    home₁ : s₁.hand.home ≡ s.hand.home
    home₁ = none.searches.goes.home

    -- so the pass may stamp that
    pub may_starve : MayStarve z s₁ page clock' wanted
    may_starve = record {
      wants = wants_then z s s₁ page wanted may.wants home₁ none.searches.goes.number (subst (Has cell) (sym none.turns) page_turn) (none.searches.parts cell page_turn);
      absent = absent_then s s₁ page.page home₁ (none.searches.parts cell page_turn) may.absent;
      left = let left = none.searches.goes.left in let two = may.left in omega (arith, left, two);
      clock_is = subst (λ (o : Option ℕ). HasClock s₁ o clock') (sym (ap (λ (y : Site). home_of (plan_at y) page.page) home₁ ∙ may.home_is)) held;
      turns = none.turns ∙ (may.turns ∙ (λ i. sym (ap (λ (c : ClockTurn). c.number) clock_is) i ∷ page_cell (plan_at (sym home₁ i)) page.page ∷ []));
      noted = subst (λ (list : List ℕ). Rattle.eleos_clock.specs.Lists.AllNoted list true s₁.sweep.words) (sym (ap (λ (c : ClockTurn). c.clock) clock_is)) none.noted;
      since_stamp = none.searches.since_stamp ∙ may.since_stamp;
    }

    -- nothing was stamped meanwhile
    pub searched_none : IsLawful s₁ → Reaches s [] s.hand.turns s₁
    searched_none law = reaches_searched s s₁ s.hand.turns none.searches none.turns law

  -- the search found this in the frame f
  module _ (clock' : ClockTurn) (f : ℕ) (s₁ : PassState) (law : IsLawful s₁) (clock_is : clock' ≡ record clock { hand = clock'.hand }) (held : HasClock s₁ (Some may.home) clock') where
    number_is : clock'.number ≡ clock.number
    number_is = ap (λ (c : ClockTurn). c.number) clock_is

    -- it is in hand
    pub has_found : (found : Found) → FoundIn s f true found s₁ → HasFound s₁ found
    has_found (Free found) is = is.2.has
    has_found (Sole found) is = is.1.has

    -- nothing was stamped meanwhile
    pub searched : (found : Found) → FoundIn s f true found s₁ → Searches s s₁
    searched (Free found) is = is.2.searches
    searched (Sole found) is = is.1.searches

    -- the pass may stamp an evict
    pub may_free : (found : Found) → FoundIn s f true found s₁ → (s₁.hand.home ≡ z) × IsCaller (plan_at z) s₁.hand.number × (0 < s₁.hand.left)
    may_free found is = let goes = (searched found is).goes in (
      goes.home ∙ may.wants.own,
      subst (λ (y : Site × ℕ). IsCaller (plan_at y.0) y.1) (λ i. (may.wants.own i, sym goes.number i)) may.wants.caller,
      let left = goes.left in let two = may.left in omega (arith, left, two),
    )

    module _ {P : Type 0} (port : Ghosts P) (host : store.Ghosts P) (before tap : TapState P) (s₂ : PassState) (free : FreeFrame) where
      -- it was a free frame
      freed_free : (found : FreeFrame) → FoundIn s f true (Free found) s₁ → IsOwned may.home (Free found) s₁ → free ≡ found → s₂ ≡ s₁ → tap ≡ before → HasFreed port host z s before page may.home clock' free s₂ tap
      freed_free found is owned free_is same tap_is = subst (λ (y : FreeFrame × PassState × TapState P). HasFreed port host z s before page may.home clock' y.0 y.1 y.2) (λ i. (sym free_is i, sym same i, sym tap_is i)) (record {
        gone = None;
        first = [];
        left_by = (refl, refl);
        few = omega arith;
        reaches = reaches_searched s s₁ (frame_cell k found.frame ∷ clock'.number ∷ cell ∷ []) did (is.2.turns ∙ ap (λ (l : List ℕ). frame_cell k found.frame ∷ l) (may.turns ∙ ap (λ n. n ∷ cell ∷ []) (sym number_is))) law;
        has = is.2.has;
        owned = ap (λ (y : Site). owner_in (part_seen s₁ (frame_cell (plan_at y) found.frame))) (sym did.goes.home) ∙ owned;
        page_part = did.parts cell page_turn;
        clock_is = held;
      }) where
        did : Searches s s₁
        did = is.2.searches

      -- a page left it
      module _ (sole : SolePage) (puts : ℕ) (is : FoundIn s f true (Sole sole) s₁) (owned : IsOwned may.home (Sole sole) s₁) (h : HasEvicted port host s₁ before sole free puts s₂ tap) where
        did : Searches s s₁
        did = is.1.searches

        home_found : s₁.hand.home ≡ s.hand.home
        home_found = did.goes.home

        home_left : s₂.hand.home ≡ s₁.hand.home
        home_left = h.entered.goes.home

        abbrev pc : ℕ
        pc = page_cell k sole.page

        abbrev fc : ℕ
        fc = frame_cell k sole.frame

        turns₂ : s₂.hand.turns ≡ fc ∷ s.hand.turns
        turns₂ = h.entered.turns ∙ ((λ i. less_one (page_cell (plan_at (home_found i)) sole.page) (is.1.turns i)) ∙ less_first pc (fc ∷ s.hand.turns))

        -- the page in hand is absent, so it is not the one that left
        no_page : cell ≢ page_cell (plan_of s₁) sole.page
        no_page same =
            let at : cell ≡ pc = same ∙ ap (λ (y : Site). page_cell (plan_at y) sole.page) home_found in
            let pages : page.page ≡ sole.page = omega (arith, at) in
            let there : frame_in (part_seen s₁ cell) ≡ Some sole.frame
            = (λ i. frame_in (part_seen s₁ (page_cell (plan_at (sym home_found i)) (pages i)))) ∙ is.1.has.in_frame in
            let gone : frame_in (part_seen s₁ cell) ≡ None = ap frame_in (did.parts cell page_turn) ∙ may.absent in
            let wrong : Some sole.frame ≡ None = sym there ∙ gone in cc

        no_frame : cell ≢ frame_cell (plan_of s₁) sole.frame
        no_frame same = cells_differ k page.page sole.frame may.wants.has.number (same ∙ ap (λ (y : Site). frame_cell (plan_at y) sole.frame) home_found)

        clock_page : clock'.number ≢ page_cell (plan_of s₁) sole.page
        clock_page same = clock_no_page sole.page (sym number_is ∙ (same ∙ ap (λ (y : Site). page_cell (plan_at y) sole.page) home_found))

        clock_frame : clock'.number ≢ frame_cell (plan_of s₁) sole.frame
        clock_frame same = clock_no_frame sole.frame (sym number_is ∙ (same ∙ ap (λ (y : Site). frame_cell (plan_at y) sole.frame) home_found))

        page_turn₁ : Has cell s₁.hand.turns
        page_turn₁ = subst (Has cell) (sym is.1.turns) (inr (inr page_turn))

        abbrev one : Made
        one = (length h.entered.past, evict_stamp s.hand.number sole.page sole.frame)

        stamp_is : evict_stamp s₁.hand.number sole.page sole.frame ≡ evict_stamp s.hand.number sole.page sole.frame
        stamp_is = ap (λ (n : ℕ). evict_stamp n sole.page sole.frame) did.goes.number

        abbrev held₂ : List ℕ
        held₂ = less_one (page_cell (plan_of s₁) sole.page) s₁.hand.turns

        abbrev stands : Stands z (seen s₂) one
        stands = record {
          past = h.entered.past;
          place = refl;
          later = [];
          behind = h.entered.sees ∙ ap (λ (n : ℕ). (evict_stamp n sole.page sole.frame).entry ∷ h.entered.past) did.goes.number;
          legal = subst (λ (y : Site × ℕ). CoreStep (plan_at y.0) (seals_at y.0) h.entered.past (evict_stamp y.1 sole.page sole.frame).entry) (λ i. ((home_found ∙ may.wants.own) i, did.goes.number i)) h.entered.legal;
        }

        reaches : Reaches s (one ∷ []) s₂.hand.turns s₂
        reaches = subst (λ (d : Rattle.eleos_core.specs.Parts.Stamp). Reaches s ((length h.entered.past, d) ∷ []) s₂.hand.turns s₂) stamp_is
            (subst (λ (l : List ℕ). Reaches s ((length h.entered.past, evict_stamp s₁.hand.number sole.page sole.frame) ∷ []) l s₂) (sym h.entered.turns)
            (reaches_then s s₁ s₂ [] ((length h.entered.past, evict_stamp s₁.hand.number sole.page sole.frame) ∷ []) s₁.hand.turns held₂ (reaches_searched s s₁ s₁.hand.turns did refl law)
            (reaches_entered s₁ s₂ (evict_stamp s₁.hand.number sole.page sole.frame) held₂ h.entered h.lawful)))

        freed_sole : HasFreed port host z s before page may.home clock' free s₂ tap
        freed_sole = record {
          gone = Some sole.page;
          first = one ∷ [];
          left_by = (
            one,
            refl,
            record {
              is = ap (λ (f : ℕ). evict_stamp s.hand.number sole.page f) (sym h.frame);
              stands = stands;
              crossed = subst (λ (y : Site × ℕ). HasCrossed port host before tap [] (puts_of (plan_at y.0) (seals_at y.0) (evict_stamp y.1 sole.page sole.frame).entry h.entered.past)) (λ i. ((home_found ∙ may.wants.own) i, did.goes.number i)) h.crossed;
            },
          );
          few = omega arith;
          reaches = subst (λ (l : List ℕ). Reaches s (one ∷ []) l s₂) (turns₂ ∙ (λ i. frame_cell k (sym h.frame i) ∷ (may.turns ∙ ap (λ n. n ∷ cell ∷ []) (sym number_is)) i)) reaches;
          has = h.has;
          owned = (λ i. owner_in (part_seen s₂ (frame_cell (plan_at (sym home_found i)) (h.frame i)))) ∙ (h.owner ∙ owned);
          page_part = h.parts cell page_turn₁ no_page no_frame ∙ did.parts cell page_turn;
          clock_is = record {
            known = subst (λ (y : Site). IsOwner (plan_at y) (Some may.home)) (sym home_left) held.known;
            number = subst (λ (y : Site). clock'.number ≡ clock_cell (plan_at y) (Some may.home)) (sym home_left) held.number;
            turn = subst (Has clock'.number) (sym turns₂) (inr (subst (Has clock'.number) (sym may.turns) (inl number_is)));
            value = held.value ∙ sym (h.parts clock'.number held.turn clock_page clock_frame);
            hand_within = held.hand_within;
          };
        }

      -- so a free frame is in hand
      pub freed : (found : Found) → FoundIn s f true found s₁ → IsOwned may.home found s₁ → Frees port host s₁ before found free s₂ tap → HasFreed port host z s before page may.home clock' free s₂ tap
      freed (Free found) is owned did = freed_free found is owned did.0 did.1 did.2
      freed (Sole sole) is owned did = freed_sole sole did.0 is owned did.1

      -- and once the turn of the clock cell went back the page may be put into it
      module _ (h : HasFreed port host z s before page may.home clock' free s₂ tap) where
        home₂ : s₂.hand.home ≡ s.hand.home
        home₂ = h.reaches.goes.home

        abbrev frame_at : ℕ
        frame_at = frame_cell k free.frame

        abbrev s₃ : PassState
        s₃ = gave s₂ clock'.number

        clock_other : (c : ℕ) → (clock.number ≡ c → ⊥) → c ≢ clock'.number
        clock_other c ne same = ne (sym (same ∙ number_is))

        turns₃ : s₃.hand.turns ≡ frame_at ∷ cell ∷ []
        turns₃ = ap (less_one clock'.number) h.reaches.turns ∙ less_second frame_at clock'.number (cell ∷ []) (λ same. clock_no_frame free.frame (sym number_is ∙ same))

        page_turn₃ : Has cell s₃.hand.turns
        page_turn₃ = subst (Has cell) (sym turns₃) (inr (inl refl))

        pub may_put_in : MayPutIn z s₃ page free wanted
        may_put_in = record {
          wants = wants_then z s s₃ page wanted may.wants home₂ h.reaches.goes.number page_turn₃ h.page_part;
          absent = absent_then s s₃ page.page home₂ h.page_part may.absent;
          left = let left = h.reaches.goes.left in let two = may.left in let few = h.few in omega (arith, left, two, few);
          free = record {
            held = record {
              number = h.has.held.number;
              turn = has_less clock'.number (frame_cell (plan_of s₂) free.frame) s₂.hand.turns h.has.held.turn
                  (λ same. clock_no_frame free.frame (sym number_is ∙ (sym same ∙ ap (λ (y : Site). frame_cell (plan_at y) free.frame) home₂)));
              value = h.has.held.value;
              fits = h.has.held.fits;
            };
            empty = h.has.empty;
          };
          at_home = ap (λ (y : Site). owner_in (part_seen s₃ (frame_cell (plan_at y) free.frame))) home₂ ∙ (h.owned ∙ sym (ap (λ (y : Site). home_of (plan_at y) page.page) home₂ ∙ may.home_is));
          turns = turns₃ ∙ (λ i. frame_cell (plan_at (sym home₂ i)) free.frame ∷ page_cell (plan_at (sym home₂ i)) page.page ∷ []);
        }

        -- these entries brought it so far
        pub reached : Reaches s h.first (frame_at ∷ cell ∷ []) s₃
        reached = subst (λ (l : List ℕ). Reaches s h.first l s₃) (ap (less_one clock'.number) (sym h.reaches.turns) ∙ turns₃)
            (reaches_gave s s₂ h.first (frame_at ∷ clock'.number ∷ cell ∷ []) clock'.number h.clock_is.turn h.reaches)
