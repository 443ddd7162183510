-- A page for which there is no frame.
use Rattle.std.proofs.Common.{◌≡◌, inl, inr, ℕ, List, [], ◌∷◌, Option, Some, None, is_some, length, refl, sym, ◌∙◌, ap, subst, arith}
use Rattle.eleos_base.specs.declared.memory.Looked.{Looked}
use Rattle.eleos_base.specs.declared.memory.Reply.TheVariants.{NoFrame}
use Rattle.eleos_base.specs.declared.plan.Plan.{Plan}
use Rattle.eleos_base.specs.Places.{home_of, page_of, sub_of}
use Rattle.eleos_base.specs.Ties.{Has}
use Rattle.eleos_core.specs.declared.event.Event.TheVariants.{Starved}
use Rattle.eleos_core.specs.declared.event.Wanted.{Wanted}
use Rattle.eleos_core.specs.Parts.{IsWantedIn, Stamp, clock_cell, foot, page_cell}
use Rattle.eleos_core.specs.Legal.{IsOwner}
use Rattle.eleos_core.specs.Quiet.{starved_stamp}
use Rattle.eleos_core.specs.State.{address_of}
use Rattle.eleos_core.proofs.CellNumbers.{home_clock_is}
use Rattle.eleos_turn.specs.Numbers.{less_one}
use Rattle.eleos_turn.proofs.Numbers.{else, has_less, here}
use Rattle.eleos_machine.specs.declared.holding.ClockTurn.{ClockTurn}
use Rattle.eleos_machine.specs.declared.holding.HeldPage.{HeldPage}
use Rattle.eleos_machine.specs.Holding.{HasClock, HasPage}
use Rattle.eleos_machine.specs.Machines.{Site, plan_at}
use Rattle.eleos_machine.specs.Passes.{IsLawful, PassState, gave, part_seen, plan_of}
use Rattle.eleos_machine.specs.Stamping.{HasStamped, MayStamp}
use Rattle.eleos_pages.specs.Entered.{Enters}
use Rattle.eleos_pages.proofs.Ending.{entered}
use Rattle.eleos_pages.proofs.OnPages.{same_hand}
use Rattle.eleos_clock.proofs.Starving.{may_starve}
use Rattle.eleos_spointer.specs.Brought.{HasStarved, MayStarve, cell_of_held}
use Rattle.eleos_spointer.specs.Reached.{Reaches}
use Rattle.eleos_spointer.proofs.Quieting.{clock_stays, page_stays}
use Rattle.eleos_spointer.proofs.Reaching.{reaches_entered, reaches_gave, stands_entered}

-- a list without its first number
pub less_first : (a : ℕ) (xs : List ℕ) → less_one a (a ∷ xs) ≡ xs
less_first a xs = here a a xs (a ∷ less_one a xs) refl

-- a list without its second number, where the first is another
pub less_second : (a b : ℕ) (xs : List ℕ) → (b ≡ a → ⊥) → less_one b (a ∷ b ∷ xs) ≡ a ∷ xs
less_second a b xs ne = else b a (b ∷ xs) (a ∷ less_one b (b ∷ xs)) ne ∙ ap (λ l. a ∷ l) (less_first b xs)

-- the number of a clock cell is not that of a page's cell
pub clock_no_page : (s : PassState) (clock : ClockTurn) (p e : ℕ) → HasClock s (Some e) clock → clock.number ≡ page_cell (plan_of s) p → ⊥
clock_no_page s clock p e has same = let is = has.number in let known = has.known in omega (arith, is, known, same)

module _ (z : Site) (s : PassState) (page : HeldPage) (clock : ClockTurn) (wanted : Wanted) (may : MayStarve z s page clock wanted) where
  abbrev k : Plan
  k = plan_of s

  abbrev cell : ℕ
  cell = cell_of_held s page

  abbrev words : List Looked
  words = s.sweep.words

  abbrev p : ℕ
  p = page_of k (sub_of k (address_of wanted))

  abbrev d : Stamp
  d = starved_stamp s.hand.number wanted words (NoFrame words)

  abbrev pub drafted : PassState
  drafted = record s { draft = d }

  wanted_is : IsWantedIn k s.hand.number wanted (part_seen s cell)
  wanted_is = record { not_refused = may.wants.accepted; absent = ap is_some may.absent }

  -- the entry may be stamped
  pub may_stamp : (s₁ : PassState) → s₁ ≡ drafted → MayStamp s₁
  may_stamp s₁ is = subst MayStamp (sym is) (may_starve s wanted clock may.wants.needs may.wants.caller may.left
      (subst (λ (q : ℕ). Has (page_cell k q) s.hand.turns) may.wants.page_is may.wants.has.turn)
      (subst (λ (q : ℕ). HasClock s (home_of k q) clock) may.wants.page_is may.clock_is)
      (subst (λ (q : ℕ). IsWantedIn k s.hand.number wanted (part_seen s (page_cell k q))) may.wants.page_is wanted_is)
      may.noted may.since_stamp)

  module _ (n : ℕ) (s' : PassState) (h : HasStamped drafted n s') (law : IsLawful s') where
    in_foot : Has cell (foot k d)
    in_foot = inl (ap (page_cell k) may.wants.page_is)

    -- the page is in hand still, and the clock cell
    page_held : HasPage s' page.page page.cell
    page_held = page_stays s s.hand.number (Starved wanted words) [] (NoFrame words) tt n s' h page.page page.cell may.wants.has may.absent in_foot

    pub clock_held : HasClock s' (home_of k page.page) clock
    clock_held = clock_stays s s.hand.number (Starved wanted words) [] (NoFrame words) tt n s' h (home_of k page.page) clock may.clock_is (home_clock_is k page.page)
        (inr (inl (ap (λ (q : ℕ). clock_cell k (home_of k q)) may.wants.page_is)))

    abbrev enters : Enters s d s.hand.turns s'
    enters = same_hand s d d s.hand.turns s' (entered drafted s' n refl h)

    -- a clock cell is no page's
    differ : cell ≡ clock.number → ⊥
    differ same = let is = may.clock_is.number in by_home (home_of k page.page) (same ∙ is) may.clock_is.known where
      by_home : (o : Option ℕ) → cell ≡ clock_cell k o → IsOwner k o → ⊥
      by_home None same known = omega (arith, same)
      by_home (Some e) same known = omega (arith, same, known)

    abbrev s₂ : PassState
    s₂ = gave s' clock.number

    -- the turn of the page is in hand after that of the clock cell went back
    pub page_left : HasPage s₂ page.page page.cell
    page_left = record {
      number = page_held.number;
      turn = has_less clock.number (page_cell (plan_of s') page.page) s'.hand.turns page_held.turn
          (λ same. differ (ap (λ (y : Site). page_cell (plan_at y) page.page) (sym h.goes.home) ∙ same));
      value = page_held.value;
      fits = page_held.fits;
    }

    turn_of_page : Has cell s₂.hand.turns
    turn_of_page = subst (λ (y : Site). Has (page_cell (plan_at y) page.page) s₂.hand.turns) h.goes.home page_left.turn

    reaches : Reaches s ((length enters.past, d) ∷ []) [] (gave s₂ cell)
    reaches = subst (λ (held : List ℕ). Reaches s ((length enters.past, d) ∷ []) held (gave s₂ cell))
        (ap (λ (held : List ℕ). less_one cell (less_one clock.number held)) may.turns ∙ (ap (less_one cell) (less_first clock.number (cell ∷ [])) ∙ less_first cell []))
        (reaches_gave s s₂ ((length enters.past, d) ∷ []) (less_one clock.number s.hand.turns) cell turn_of_page
        (reaches_gave s s' ((length enters.past, d) ∷ []) s.hand.turns clock.number clock_held.turn (reaches_entered s s' d s.hand.turns enters law)))

    -- the pass was refused
    pub starves : (s₃ : PassState) → s₃ ≡ gave s₂ (cell_of_held s₂ page) → HasStarved s wanted s₃
    starves s₃ is = subst (HasStarved s wanted) (sym (is ∙ ap (λ (y : Site). gave s₂ (page_cell (plan_at y) page.page)) h.goes.home)) (record {
      starved = (length enters.past, d);
      is = ap (λ (ws : List Looked). starved_stamp s.hand.number wanted ws (NoFrame ws)) (sym (ap (λ (y : PassState). y.sweep.words) h.rest));
      stands = stands_entered s s' d s.hand.turns enters;
      reaches = reaches;
    })
