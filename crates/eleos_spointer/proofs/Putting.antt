-- A page that is put into a frame, or is not, since a block did not pass.
use Rattle.std.proofs.Common.{◌≡◌, inl, ⊎_elim, ℕ, zero, suc, ◌+◌, ◌*◌, ◌-◌, ◌<◌, List, [], ◌∷◌, None, is_some, length, slice_index_or, refl, sym, ◌∙◌, ap, subst, arith}
use Rattle.eleos_base.specs.declared.memory.Addr.{Addr}
use Rattle.eleos_base.specs.declared.memory.Reply.TheVariants.{Done, Tampered}
use Rattle.eleos_base.specs.declared.plan.Plan.{Plan}
use Rattle.eleos_base.specs.Lists.{map_from}
use Rattle.eleos_base.specs.Places.{home_of, page_of, per_page, sub_of}
use Rattle.eleos_base.specs.Plans.{IsCaller}
use Rattle.eleos_base.specs.Ties.{Has}
use Rattle.eleos_core.specs.declared.event.Event.TheVariants.{Fill, Spoiled}
use Rattle.eleos_core.specs.declared.event.Wanted.{Wanted}
use Rattle.eleos_core.specs.Fills.{fill_stamp, sealed_places}
use Rattle.eleos_core.specs.Legal.{IsActor, NeedsFrame, failed, judged}
use Rattle.eleos_core.specs.Parts.{IsWantedIn, Part, Stamp, SubPart, blank_sub, block_at, foot, frame_cell, frame_in, owner_in, page_cell, part_after, part_of, passes_in, places_in, sub_after, subs_in, the_page, verdict_in, wanted_refusal_in}
use Rattle.eleos_core.specs.Quiet.{spoiled_stamp}
use Rattle.eleos_core.specs.Seals.{Seals}
use Rattle.eleos_core.specs.State.{address_of, page_places, places}
use Rattle.eleos_core.proofs.CellNumbers.{page_is, sealed_are}
use Rattle.eleos_host.specs.declared.port.HostPort.{Ghosts}
use Rattle.eleos_host.specs.declared.port.HostStore as store
use Rattle.eleos_host.specs.Taps.{TapState}
use Rattle.eleos_turn.specs.Numbers.{less_one}
use Rattle.eleos_turn.proofs.Numbers.{has_less}
use Rattle.eleos_machine.specs.declared.holding.FreeFrame.{FreeFrame}
use Rattle.eleos_machine.specs.declared.holding.HeldPage.{HeldPage}
use Rattle.eleos_machine.specs.Holding.{HasAbsent, HasPage}
use Rattle.eleos_machine.specs.Machines.{Site, plan_at}
use Rattle.eleos_machine.specs.Passes.{IsLawful, PassState, gave, part_seen, plan_of, seals_of}
use Rattle.eleos_machine.specs.Stamping.{HasStamped, MayStamp}
use Rattle.eleos_pages.specs.Crossed.{HasCrossed, blocks_below, each_at}
use Rattle.eleos_pages.specs.Entered.{Enters}
use Rattle.eleos_pages.specs.Filled.{HasFilled, HasSpoiled, filled_by}
use Rattle.eleos_pages.proofs.Ending.{before_stamp, entered, turn_stays}
use Rattle.eleos_pages.proofs.HeldCells.{cells_differ}
use Rattle.eleos_pages.proofs.OnPages.{same_hand}
use Rattle.eleos_plot.specs.Cells.{part_of_cell}
use Rattle.eleos_spointer.specs.Brought.{Accepts, FailedIn, HasPutIn, MayPutIn, cell_of_held}
use Rattle.eleos_spointer.specs.Reached.{Reaches}
use Rattle.eleos_spointer.proofs.Quieting.{page_stays}
use Rattle.eleos_spointer.proofs.Reaching.{reaches_entered, reaches_gave, stands_entered}
use Rattle.eleos_spointer.proofs.Starving.{less_first}

-- a caller is an actor
pub is_actor : (k : Plan) (who : ℕ) → IsCaller k who → IsActor k who
is_actor k who caller = record { from_one = caller.from_one; within = let within = caller.within in omega (arith, within) }

-- the blocks of sub-pages that are all changed, but not their blocks
block_stays : (f : ℕ → SubPart → SubPart) → ((s : ℕ) (u : SubPart) → (f s u).block ≡ u.block) → (s i : ℕ) (us : List SubPart) → (slice_index_or (map_from f s us) i blank_sub).block ≡ (slice_index_or us i blank_sub).block
block_stays f same s i [] = refl
block_stays f same s zero (u ∷ us) = same s u
block_stays f same s (suc i) (u ∷ us) = block_stays f same (s + 1) i us

-- a fill leaves the live blocks of its page as they are
pub block_filled : (k : Plan) (x : Seals) (who p f : ℕ) (blocks : List (List ℕ)) (q : Part) (at : Addr) → block_at k (part_after k x (fill_stamp who p f blocks Done) (the_page p) q) at ≡ block_at k q at
block_filled k x who p f blocks q at = block_stays (sub_after k x (fill_stamp who p f blocks Done) (places_in k (Fill p f) (frame_in q) (subs_in q)) (frame_in q)) (λ s u. refl)
    (p * per_page k) (sub_of k at - page_of k (sub_of k at) * per_page k) (subs_in q)

-- what was wanted may be refused since a block of its page did not pass
may_spoil : (s : PassState) (wanted : Wanted) (blocks : List (List ℕ)) (sub : ℕ) → NeedsFrame wanted → let k = plan_of s in let p = page_of k (sub_of k (address_of wanted)) in
    IsCaller k s.hand.number → 0 < s.hand.left → Has (page_cell k p) s.hand.turns → IsWantedIn k s.hand.number wanted (part_seen s (page_cell k p))
    → verdict_in k (seals_of s) (Spoiled wanted) blocks (part_seen s (page_cell k p)) ≡ failed sub → MayStamp (record s { draft = spoiled_stamp s.hand.number wanted blocks (Tampered sub) })
may_spoil s wanted blocks sub needs caller left turn is_wanted fails = record {
  own = refl;
  left = left;
  turns = λ c touched. ⊎_elim (λ (e : c ≡ page_cell (plan_of s) (page_of (plan_of s) (sub_of (plan_of s) (address_of wanted)))). subst (λ d. Has d s.hand.turns) (sym e) turn) (λ (none : ⊥). absurd none) touched;
  legal = record { within = (caller, needs); on_parts = (is_wanted, sub, fails, refl) };
  sweep = tt;
  bare = λ c bare. absurd bare;
  covered = λ c is. absurd (cc);
  there = λ c is. absurd (cc);
}

module _ (z : Site) (s : PassState) (page : HeldPage) (frame : FreeFrame) (wanted : Wanted) (may : MayPutIn z s page frame wanted) where
  abbrev k : Plan
  k = plan_of s

  abbrev cell : ℕ
  cell = cell_of_held s page

  abbrev fc : ℕ
  fc = frame_cell k frame.frame

  -- the page may be put into the frame
  pub has_absent : HasAbsent s page
  has_absent = record { page = may.wants.has; absent = may.absent }

  pub at_home : owner_in (part_seen s (frame_cell (plan_at z) frame.frame)) ≡ home_of (plan_at z) page.page
  at_home = subst (λ (y : Site). owner_in (part_seen s (frame_cell (plan_at y) frame.frame)) ≡ home_of (plan_at y) page.page) may.wants.own may.at_home

  -- it was put there
  pub put_in : {P : Type 0} (port : Ghosts P) (host : store.Ghosts P) (before : TapState P) (page' : HeldPage) (s' : PassState) (tap : TapState P) → HasFilled port host s before page frame page' s' tap → HasPutIn port host s before page frame.frame wanted page' s' tap
  put_in port host before page' s' tap h = record {
    filled = (length h.entered.past, d);
    put = record {
      blocks = blocks_below h.count tap;
      is = refl;
      stands = stands_entered s s' d (less_one fc s.hand.turns) h.entered;
      crossed = h.crossed;
      unfailed = h.unfailed;
    };
    reaches = subst (λ (held : List ℕ). Reaches s ((length h.entered.past, d) ∷ []) held s') (ap (less_one fc) may.turns ∙ less_first fc (cell ∷ []))
        (reaches_entered s s' d (less_one fc s.hand.turns) h.entered h.lawful);
    page_is = h.page_is;
    has = h.has;
    present = ap is_some h.in_frame;
    accepted = accepted;
  } where
    d : Stamp
    d = filled_by s page frame h.count tap

    block : block_at k (part_seen s' cell) (address_of wanted) ≡ block_at k (part_seen s cell) (address_of wanted)
    block = ap (λ (q : Part). block_at k q (address_of wanted)) h.made ∙ block_filled k (seals_of s) s.hand.number page.page frame.frame (blocks_below h.count tap) (part_seen s cell) (address_of wanted)

    accepted : Accepts s' page' wanted
    accepted = subst (λ (y : ℕ). wanted_refusal_in (plan_of s') s'.hand.number wanted (block_at (plan_of s') (part_seen s' (page_cell (plan_of s') y)) (address_of wanted)) ≡ None) (sym h.page_is)
        (subst (λ (n : ℕ). wanted_refusal_in (plan_of s') n wanted (block_at (plan_of s') (part_seen s' (page_cell (plan_of s') page.page)) (address_of wanted)) ≡ None) (sym h.entered.goes.number)
        (subst (λ (y : Site). wanted_refusal_in (plan_at y) s.hand.number wanted (block_at (plan_at y) (part_seen s' (page_cell (plan_at y) page.page)) (address_of wanted)) ≡ None) (sym h.entered.goes.home)
        (ap (wanted_refusal_in k s.hand.number wanted) block ∙ may.wants.accepted)))

  -- a block did not pass
  module _ {P : Type 0} (port : Ghosts P) (host : store.Ghosts P) (before tap : TapState P) (page' : HeldPage) (frame' : FreeFrame) (sub count : ℕ) (s₁ : PassState) (h : HasSpoiled port host s before page frame page' frame' sub count s₁ tap) where
    abbrev blocks : List (List ℕ)
    blocks = blocks_below count tap

    abbrev p : ℕ
    p = page_of k (sub_of k (address_of wanted))

    abbrev d : Stamp
    d = spoiled_stamp s.hand.number wanted blocks (Tampered sub)

    abbrev drafted : PassState
    drafted = record s { draft = d }

    wanted_is : IsWantedIn k s.hand.number wanted (part_seen s cell)
    wanted_is = record { not_refused = may.wants.accepted; absent = ap is_some may.absent }

    -- the refusal may be stamped
    pub may_stamp : (s₂ : PassState) → s₂ ≡ record s₁ { draft = spoiled_stamp s₁.hand.number wanted blocks (Tampered sub) } → MayStamp s₂
    may_stamp s₂ is = subst MayStamp (sym (is ∙ ap (λ (y : PassState). record y { draft = spoiled_stamp y.hand.number wanted blocks (Tampered sub) }) h.same))
        (may_spoil s wanted blocks sub may.wants.needs may.wants.caller may.left
        (subst (λ (q : ℕ). Has (page_cell k q) s.hand.turns) may.wants.page_is may.wants.has.turn)
        (subst (λ (q : ℕ). IsWantedIn k s.hand.number wanted (part_seen s (page_cell k q))) may.wants.page_is wanted_is)
        (subst (λ (q : ℕ). judged (passes_in k (seals_of s) (subs_in (part_seen s (page_cell k q)))) (sealed_places q (part_seen s (page_cell k q))) blocks ≡ failed sub) may.wants.page_is h.spoiled.judged_is))

    module _ (n : ℕ) (s' : PassState) (stamped : HasStamped drafted n s') (law : IsLawful s') where
      in_foot : Has cell (foot k d)
      in_foot = inl (ap (page_cell k) may.wants.page_is)

      not_page : fc ≡ cell → ⊥
      not_page same = cells_differ k page.page frame.frame may.wants.has.number (sym same)

      only_page : Has fc (foot k d) → ⊥
      only_page touched = ⊎_elim (λ (e : fc ≡ page_cell k p). not_page (e ∙ ap (page_cell k) (sym may.wants.page_is))) (λ (none : ⊥). none) touched

      abbrev enters : Enters s d s.hand.turns s'
      enters = same_hand s d d s.hand.turns s' (entered drafted s' n refl stamped)

      -- the frame is in hand as it was
      pub frame_turn : Has fc s'.hand.turns
      frame_turn = turn_stays drafted s' n fc stamped may.free.held.turn

      pub frame_right : part_of_cell frame'.cell ≡ part_seen s' fc
      frame_right = h.free.held.value ∙ (ap (λ (f : ℕ). part_seen s (frame_cell k f)) h.frame_is ∙ sym (stamped.others fc may.free.held.turn only_page))

      -- and so is the page
      page_held : HasPage s' page'.page page'.cell
      page_held = page_stays s s.hand.number (Spoiled wanted) blocks (Tampered sub) tt n s' stamped page'.page page'.cell h.absent.page h.absent.absent (subst (λ (q : ℕ). Has (page_cell k q) (foot k d)) (sym h.page_is) in_foot)

      abbrev s₂ : PassState
      s₂ = gave s' fc

      pub page_left : HasPage s₂ page'.page page'.cell
      page_left = record {
        number = page_held.number;
        turn = has_less fc (page_cell (plan_of s') page'.page) s'.hand.turns page_held.turn
            (λ same. not_page (sym same ∙ ((λ i. page_cell (plan_at (stamped.goes.home i)) (h.page_is i)))));
        value = page_held.value;
        fits = page_held.fits;
      }

      turn_of_page : Has cell s₂.hand.turns
      turn_of_page = subst (λ (y : Site × ℕ). Has (page_cell (plan_at y.0) y.1) s₂.hand.turns) (λ i. (stamped.goes.home i, h.page_is i)) page_left.turn

      reaches : Reaches s ((length enters.past, d) ∷ []) [] (gave s₂ cell)
      reaches = subst (λ (held : List ℕ). Reaches s ((length enters.past, d) ∷ []) held (gave s₂ cell))
          (ap (λ (held : List ℕ). less_one cell (less_one fc held)) may.turns ∙ (ap (less_one cell) (less_first fc (cell ∷ [])) ∙ less_first cell []))
          (reaches_gave s s₂ ((length enters.past, d) ∷ []) (less_one fc s.hand.turns) cell turn_of_page
          (reaches_gave s s' ((length enters.past, d) ∷ []) s.hand.turns fc frame_turn (reaches_entered s s' d s.hand.turns enters law)))

      -- the places whose blocks came, by the history before it
      places_are : sealed_places page.page (part_seen s cell) ≡ places k (Spoiled wanted) enters.past
      places_are = ap (sealed_places page.page) (sym (before_stamp drafted s' n stamped law cell may.wants.has.turn) ∙ ap (part_of k (seals_of s) enters.past) (page_is k page.page may.wants.has.number))
          ∙ (sealed_are k (seals_of s) enters.past (page.page * per_page k) (per_page k)
          ∙ ap (page_places k enters.past) may.wants.page_is)

      -- so the pass was refused
      pub spoils : (s₃ : PassState) → s₃ ≡ gave s₂ (cell_of_held s₂ page') → FailedIn port host s before wanted sub s₃ tap
      spoils s₃ is = subst (λ (y : PassState). FailedIn port host s before wanted sub y tap) (sym (is ∙ (λ i. gave s₂ (page_cell (plan_at (stamped.goes.home i)) (h.page_is i))))) (record {
        spoiled = (length enters.past, d);
        failed = record {
          blocks = blocks;
          is = refl;
          stands = stands_entered s s' d s.hand.turns enters;
          crossed = subst (λ (ps : List ℕ). HasCrossed port host before tap (each_at ps blocks) []) places_are h.crossed;
          failed = h.failed;
        };
        reaches = reaches;
      })
