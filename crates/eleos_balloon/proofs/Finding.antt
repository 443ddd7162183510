-- A frame that is found for the pool: a free one, or that of a page that leaves it first.
use Rattle.std.proofs.Common.{◌≡◌, ◌≢◌, inl, inr, ℕ, ◌<◌, ◌≤◌, [], ◌∷◌, ◌++◌, length, true, false, Some, None, slice_index, refl, sym, ◌∙◌, ap, subst, arith}
use Rattle.eleos_base.specs.Ties.{Has}
use Rattle.eleos_core.specs.Evicts.{evict_stamp}
use Rattle.eleos_core.specs.Moves.{move_stamp}
use Rattle.eleos_core.specs.Parts.{Made, frame_cell, page_cell}
use Rattle.eleos_host.specs.declared.port.HostPort.{Ghosts}
use Rattle.eleos_host.specs.declared.port.HostStore as store
use Rattle.eleos_host.specs.Taps.{TapState}
use Rattle.eleos_plot.specs.Cells.{is_hand_within}
use Rattle.eleos_plot.specs.Terms.{core_terms}
use Rattle.eleos_turn.specs.Hands.{entries}
use Rattle.eleos_turn.specs.Numbers.{less_one}
use Rattle.eleos_machine.specs.declared.holding.ClockTurn.{ClockTurn}
use Rattle.eleos_machine.specs.declared.holding.FreeFrame.{FreeFrame}
use Rattle.eleos_machine.specs.declared.holding.SolePage.{SolePage}
use Rattle.eleos_machine.specs.Holding.{HasClock}
use Rattle.eleos_machine.specs.Machines.{Site, plan_at}
use Rattle.eleos_machine.specs.Notes.{cleared, free_notes}
use Rattle.eleos_machine.specs.Passes.{PassState, last_stamp, plan_of, seen}
use Rattle.eleos_pages.specs.Evicted.{HasEvicted}
use Rattle.eleos_clock.specs.declared.found.Found.TheVariants.{Free, Sole}
use Rattle.eleos_clock.specs.Answered.{FoundNone, FoundThere}
use Rattle.eleos_clock.specs.Lists.{AreNotes}
use Rattle.eleos_clock.specs.Searches.{MaySearch}
use Rattle.eleos_clock.proofs.Lists.{has_from, times_at}
use Rattle.eleos_clock.proofs.Owned.{hand_stays}
use Rattle.eleos_clock.proofs.Steps.{clock_kept}
use Rattle.eleos_swap.proofs.Steps.{seen_on}
use Rattle.eleos_balloon.specs.Holds.{Holds, MakesAll}
use Rattle.eleos_balloon.specs.Lists.{without_frame}
use Rattle.eleos_balloon.specs.Releases.{MayRelease, ReleasedNone, ReleasedOne, Releases}
use Rattle.eleos_balloon.specs.Steps.{IsEntry, LeftFrame, move_entry}
use Rattle.eleos_balloon.proofs.Held.{clock_as, clock_hand, holds_on, last_is, less_first, makes_then, may_search}

module _ (e : ℕ) (clock : ClockTurn) (s : PassState) (h : Holds e clock s) where
  -- the pass with its sweep emptied
  abbrev s₀ : PassState
  s₀ = record s { sweep = cleared true s.sweep }

  pub holds₀ : Holds e clock s₀
  holds₀ = record { actor = h.actor; turns = h.turns; has = clock_as s s₀ (Some e) clock refl h.has.turn refl h.has; covered = h.covered; since_survey = refl }

  -- the search may begin
  pub may_begin : (z : Site) → s.hand.home ≡ z → MaySearch z s₀ clock
  may_begin z own = may_search e clock s₀ holds₀ z own

  pub no_notes : AreNotes clock.clock true (free_notes s₀.sweep.words)
  no_notes = record { once = λ f. omega arith; notes = tt; taken = λ _. tt }

  module _ {P : Type 0} (port : Ghosts P) (host : store.Ghosts P) (before : TapState P) (clock' : ClockTurn) (s₁ : PassState) (is : clock' ≡ record clock { hand = clock'.hand }) where
    -- there was none
    pub none_left : FoundNone s₀ clock.clock clock.hand true s₁ clock'.hand → ReleasedNone port host s before e clock s₁ before clock'
    none_left none = record {
      made = makes;
      noted = none.noted;
      holds = holds_on e (clock.number ∷ []) (clock'.number ∷ []) clock clock' s s₁ [] h makes
          (none.turns ∙ (h.turns ∙ ap (λ (y : ClockTurn). y.number ∷ []) (sym same)))
          (subst (HasClock s₁ (Some e)) (sym same) (clock_kept s₀ s₁ (Some e) clock none.searches (subst (Has clock.number) (sym none.turns) h.has.turn) holds₀.has))
          none.searches.since_survey;
      same = same;
      no_crossing = refl;
    } where
      same : clock' ≡ clock
      same = is ∙ ap (λ n. record clock { hand = n }) none.stays

      makes : MakesAll s [] s₁
      makes = record { goes = none.searches.goes; pins = none.searches.pins; links = none.searches.links }

    -- a free frame was found
    module _ (free : FreeFrame) (at : FoundThere s₀ clock.clock clock.hand true (Free free) s₁ clock'.hand) where
      same : clock' ≡ clock
      same = is ∙ ap (λ n. record clock { hand = n }) at.moves

      home_free : s₁.hand.home ≡ s.hand.home
      home_free = at.there.2.searches.goes.home

      number_free : s₁.hand.number ≡ s.hand.number
      number_free = at.there.2.searches.goes.number

      turns_free : s₁.hand.turns ≡ frame_cell (plan_of s) free.frame ∷ clock.number ∷ []
      turns_free = at.there.2.turns ∙ ap (λ ts. frame_cell (plan_of s) free.frame ∷ ts) h.turns

      makes_free : MakesAll s [] s₁
      makes_free = record { goes = at.there.2.searches.goes; pins = at.there.2.searches.pins; links = at.there.2.searches.links }

      has_free : HasClock s₁ (Some e) clock'
      has_free = subst (HasClock s₁ (Some e)) (sym same) (clock_kept s₀ s₁ (Some e) clock at.there.2.searches (subst (Has clock.number) (sym at.there.2.turns) (inr h.has.turn)) holds₀.has)

      listed_free : Has free.frame clock.clock
      listed_free = subst (λ f. Has f clock.clock) (sym at.there.1) (has_from (slice_index clock.clock at.place) clock.clock (times_at clock.clock at.place 0 at.inside))

      -- it may go
      pub may_free : MayRelease e clock' free s₁
      may_free = record {
        holds = holds_on e (clock.number ∷ []) (frame_cell (plan_of s₁) free.frame ∷ clock'.number ∷ []) clock clock' s s₁ [] h makes_free
            (turns_free ∙ (λ i. frame_cell (plan_at (sym home_free i)) free.frame ∷ (sym same i).number ∷ [])) has_free at.there.2.searches.since_survey;
        free_is = at.there.2.has;
        listed = subst (λ (y : ClockTurn). Has free.frame y.clock) (sym same) listed_free;
      }

      -- and went
      pub went_free : (stamp : ℕ) (s₂ : PassState) (clock'' : ClockTurn) → Releases s₁ e free.frame clock' stamp s₂ clock'' → ReleasedOne port host s before e clock (record { evicted = None; frame = free.frame; stamp = stamp }) s₂ before clock''
      went_free stamp s₂ clock'' rel = record {
        made = subst (λ n. MakesAll s (move_entry n false e (record { evicted = None; frame = free.frame; stamp = stamp }) ∷ []) s₂) number_free
            (makes_then s s₁ s₂ [] (move_entry s₁.hand.number false e (record { evicted = None; frame = free.frame; stamp = stamp }) ∷ []) makes_free rel.made);
        gone = record {
          left = refl;
          moved = subst (λ (y : Site × ℕ). IsEntry y.0 (seen s₂) (move_entry y.1 false e (record { evicted = None; frame = free.frame; stamp = stamp }))) (λ i. (home_free i, number_free i)) rel.moved;
          one_way = tt;
        };
        holds = rel.holds;
        list = rel.list ∙ ap (λ (y : ClockTurn). without_frame free.frame y.clock) same;
        fewer = rel.fewer ∙ ap (λ (y : ClockTurn). length y.clock) same;
      }

    -- a page was found that nobody links
    module _ (sole : SolePage) (at : FoundThere s₀ clock.clock clock.hand true (Sole sole) s₁ clock'.hand) where
      home₁ : s₁.hand.home ≡ s.hand.home
      home₁ = at.there.1.searches.goes.home

      number₁ : s₁.hand.number ≡ s.hand.number
      number₁ = at.there.1.searches.goes.number

      abbrev pc : ℕ
      pc = page_cell (plan_of s) sole.page

      abbrev fc : ℕ
      fc = frame_cell (plan_of s) sole.frame

      turns₁ : s₁.hand.turns ≡ pc ∷ fc ∷ clock.number ∷ []
      turns₁ = at.there.1.turns ∙ ap (λ ts. pc ∷ fc ∷ ts) h.turns

      makes₁ : MakesAll s [] s₁
      makes₁ = record { goes = at.there.1.searches.goes; pins = at.there.1.searches.pins; links = at.there.1.searches.links }

      turn₁ : Has clock.number s₁.hand.turns
      turn₁ = subst (Has clock.number) (sym at.there.1.turns) (inr (inr h.has.turn))

      has₁ : HasClock s₁ (Some e) clock
      has₁ = clock_kept s₀ s₁ (Some e) clock at.there.1.searches turn₁ holds₀.has

      listed : Has sole.frame clock.clock
      listed = subst (λ f. Has f clock.clock) (sym at.there.0) (has_from (slice_index clock.clock at.place) clock.clock (times_at clock.clock at.place 0 at.inside))

      within : is_hand_within clock.clock clock'.hand ≡ true
      within = subst (λ n. is_hand_within clock.clock n ≡ true) (sym at.moves) (hand_stays clock.clock clock.hand at.place (Sole sole) h.has.hand_within)

      -- the pass may evict it
      pub left₁ : (n : ℕ) → n ≤ s.hand.left → n ≤ s₁.hand.left
      left₁ n some = let a = at.there.1.searches.goes.left in omega (arith, a, some)

      module _ (free : FreeFrame) (puts : ℕ) (s₂ : PassState) (tap : TapState P) (ev : HasEvicted port host s₁ before sole free puts s₂ tap) where
        home₂ : s₂.hand.home ≡ s.hand.home
        home₂ = ev.entered.goes.home ∙ home₁

        number₂ : s₂.hand.number ≡ s.hand.number
        number₂ = ev.entered.goes.number ∙ number₁

        turns₂ : s₂.hand.turns ≡ fc ∷ clock.number ∷ []
        turns₂ = ev.entered.turns ∙ ((λ i. less_one (page_cell (plan_at (home₁ i)) sole.page) (turns₁ i)) ∙ less_first pc (fc ∷ clock.number ∷ []))

        no_page : clock.number ≢ page_cell (plan_of s₁) sole.page
        no_page same = let n = has₁.number in let known = has₁.known in omega (arith, same, n, known)

        no_frame : clock.number ≢ frame_cell (plan_of s₁) sole.frame
        no_frame same = let n = has₁.number in let known = has₁.known in omega (arith, same, n, known)

        has₂ : HasClock s₂ (Some e) clock'
        has₂ = clock_hand s₂ (Some e) clock clock' is within
            (clock_as s₁ s₂ (Some e) clock ev.entered.goes.home (subst (Has clock.number) (sym turns₂) (inr (inl refl))) (ev.parts clock.number turn₁ no_page no_frame) has₁)

        -- the entry of the evict, by the pass as it was
        abbrev entry : ℕ → ℕ → ℕ → Made
        entry n f stamp = (stamp, evict_stamp n sole.page f)

        stamp_is : last_stamp (entries core_terms s₂.hand) ≡ length ev.entered.past
        stamp_is = ap last_stamp ev.entered.goes.own ∙ last_is (entries core_terms s₁.hand) (length ev.entered.past) (evict_stamp s₁.hand.number sole.page sole.frame)

        makes_exact : MakesAll s (entry s₁.hand.number sole.frame (length ev.entered.past) ∷ []) s₂
        makes_exact = makes_then s s₁ s₂ [] (entry s₁.hand.number sole.frame (length ev.entered.past) ∷ []) makes₁ (record { goes = ev.entered.goes; pins = ev.entered.pins; links = ev.entered.links })

        -- its frame may go
        pub may_sole : MayRelease e clock' free s₂
        may_sole = record {
          holds = holds_on e (clock.number ∷ []) (frame_cell (plan_of s₂) free.frame ∷ clock'.number ∷ []) clock clock' s s₂ (entry s₁.hand.number sole.frame (length ev.entered.past) ∷ []) h makes_exact
              (turns₂ ∙ (λ i. frame_cell (plan_at (sym home₂ i)) (sym ev.frame i) ∷ (sym is i).number ∷ [])) has₂
              (ap (λ (y : PassState). y.sweep.since_survey) ev.entered.rest ∙ at.there.1.searches.since_survey);
          free_is = ev.has;
          listed = subst (λ (y : ClockTurn). Has free.frame y.clock) (sym is) (subst (λ f. Has f clock.clock) (sym ev.frame) listed);
        }

        pub left₂ : 2 ≤ s.hand.left → 0 < s₂.hand.left
        left₂ some = let a = at.there.1.searches.goes.left in let b = ev.entered.goes.left in omega (arith, a, b, some)

        module _ (stamp : ℕ) (stamped : stamp ≡ last_stamp (entries core_terms s₂.hand)) (moved : ℕ) (s₃ : PassState) (clock'' : ClockTurn) (rel : Releases s₂ e free.frame clock' moved s₃ clock'') where
          left_exact : LeftFrame port host s₁.hand.home (seen s₃) s₁.hand.number sole.frame (record { stamp = length ev.entered.past; page = sole.page; frame = sole.frame; puts = puts }) before tap
          left_exact = record {
            frame = refl;
            is = record {
              past = ev.entered.past;
              place = refl;
              stands = let more = seen_on s₂ s₃ (move_entry s₂.hand.number false e (record { evicted = None; frame = free.frame; stamp = moved }) ∷ []) rel.made.goes in (more.0, more.1 ∙ ap (λ all. more.0 ++ all) ev.entered.sees);
              legal = ev.entered.legal;
            };
            crossed = ev.crossed;
            count = ev.count;
          }

          left_is : LeftFrame port host s.hand.home (seen s₃) s.hand.number free.frame (record { stamp = stamp; page = sole.page; frame = free.frame; puts = puts }) before tap
          left_is = subst (λ (y : Site × ℕ × ℕ × ℕ). LeftFrame port host y.0 (seen s₃) y.1 y.2 (record { stamp = y.3; page = sole.page; frame = y.2; puts = puts }) before tap)
              (λ i. (home₁ i, number₁ i, sym ev.frame i, sym (stamped ∙ stamp_is) i)) left_exact

          makes₂ : MakesAll s (entry s.hand.number free.frame stamp ∷ []) s₂
          makes₂ = subst (λ (y : ℕ × ℕ × ℕ). MakesAll s (entry y.0 y.1 y.2 ∷ []) s₂) (λ i. (number₁ i, sym ev.frame i, sym (stamped ∙ stamp_is) i)) makes_exact

          -- and went
          pub went_sole : ReleasedOne port host s before e clock (record { evicted = Some (record { stamp = stamp; page = sole.page; frame = free.frame; puts = puts }); frame = free.frame; stamp = moved }) s₃ tap clock''
          went_sole = record {
            made = makes_then s s₂ s₃ (entry s.hand.number free.frame stamp ∷ []) ((moved, move_stamp s.hand.number free.frame (Some e) None) ∷ []) makes₂
                (subst (λ n. MakesAll s₂ ((moved, move_stamp n free.frame (Some e) None) ∷ []) s₃) number₂ rel.made);
            gone = record {
              left = left_is;
              moved = subst (λ (y : Site × ℕ). IsEntry y.0 (seen s₃) (moved, move_stamp y.1 free.frame (Some e) None)) (λ i. (home₂ i, number₂ i)) rel.moved;
              one_way = tt;
            };
            holds = rel.holds;
            list = rel.list ∙ ap (λ (y : ClockTurn). without_frame free.frame y.clock) is;
            fewer = rel.fewer ∙ ap (λ (y : ClockTurn). length y.clock) is;
          }
