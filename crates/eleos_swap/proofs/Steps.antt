-- Steps of a pass one after another, with the entries that it made.
use Rattle.std.proofs.Common.{◌≡◌, ℕ, ◌<◌, List, [], ◌∷◌, ◌++◌, Some, None, refl, sym, ◌∙◌, ap, subst, arith, append_assoc}
use Rattle.eleos_base.specs.declared.memory.Looked.{Looked}
use Rattle.eleos_base.specs.declared.plot.Event.{Event}
use Rattle.eleos_base.specs.Ties.{Has}
use Rattle.eleos_core.specs.Legal.{IsOwner}
use Rattle.eleos_core.specs.Parts.{Made, Part, Stamp, clock_cell, frame_cell, frame_in, page_cell}
use Rattle.eleos_base.specs.Places.{Owner, all_frames, all_pages}
use Rattle.eleos_core.specs.State.{History}
use Rattle.eleos_core.specs.Applying.{puts_of}
use Rattle.eleos_host.specs.declared.port.HostPort.{Ghosts}
use Rattle.eleos_host.specs.declared.port.HostStore as store
use Rattle.eleos_host.specs.Taps.{TapState}
use Rattle.eleos_pages.specs.Crossed.{HasCrossed}
use Rattle.eleos_plot.specs.Histories.{history_after, history_of}
use Rattle.eleos_plot.specs.Terms.{core_terms}
use Rattle.eleos_turn.specs.Hands.{Goes}
use Rattle.eleos_turn.specs.Numbers.{times}
use Rattle.eleos_turn.proofs.Clients.{goes_trans}
use Rattle.eleos_machine.specs.declared.holding.ClockTurn.{ClockTurn}
use Rattle.eleos_machine.specs.Holding.{HasClock}
use Rattle.eleos_machine.specs.Machines.{Site, plan_at, seals_at}
use Rattle.eleos_machine.specs.Passes.{PassState, part_seen, plan_of, seen}
use Rattle.eleos_clock.specs.Searches.{MaySearch, Searches}
use Rattle.eleos_swap.specs.Making.{AreEvicts, HandMoves, IsEvict, Makes, StaysFree}

-- a search that kept its turns made nothing
pub makes_none : (s s' : PassState) → Searches s s' → s'.hand.turns ≡ s.hand.turns → Makes s [] s'
makes_none s s' did turns = record { goes = did.goes; turns = turns; pins = did.pins; links = did.links; pointers = did.pointers; parts = did.parts; since_survey = did.since_survey }

-- one after another
pub makes_on : (s s' s'' : PassState) (xs ys : List Made) → Makes s xs s' → Makes s' ys s'' → Makes s (xs ++ ys) s''
makes_on s s' s'' xs ys a b = record {
  goes = goes_trans core_terms s.hand s'.hand s''.hand xs ys a.goes b.goes;
  turns = b.turns ∙ a.turns;
  pins = b.pins ∙ a.pins;
  links = λ c. b.links c ∙ a.links c;
  pointers = b.pointers ∙ a.pointers;
  parts = λ c had. b.parts c (subst (Has c) (sym a.turns) had) ∙ a.parts c had;
  since_survey = b.since_survey ∙ a.since_survey;
}

-- the turn of the clock cell stays what it is
pub clock_stays : (s s' : PassState) (made : List Made) (owner : Owner) (clock clock' : ClockTurn) → Makes s made s' → HandMoves clock clock' → HasClock s owner clock → HasClock s' owner clock'
clock_stays s s' made owner clock clock' did moves has = subst (HasClock s' owner) (sym moves.same) (record {
  known = subst (λ (y : Site). IsOwner (plan_at y) owner) (sym did.goes.home) has.known;
  number = subst (λ (y : Site). clock.number ≡ clock_cell (plan_at y) owner) (sym did.goes.home) has.number;
  turn = subst (Has clock.number) (sym did.turns) has.turn;
  value = has.value ∙ sym (did.parts clock.number has.turn);
  hand_within = moves.within;
})

-- a search may go on after what was made
pub may_makes : (z : Site) (s s' : PassState) (clock clock' : ClockTurn) (made : List Made) → MaySearch z s clock → Makes s made s' → HandMoves clock clock' → MaySearch z s' clock'
may_makes z s s' clock clock' made may did moves = record {
  look = record {
    own = home ∙ may.look.own;
    made = subst (λ n. 0 < n) (sym did.goes.number) may.look.made;
    covered = λ c. let a = may.look.covered c in let b = did.links c in let e = ap (times c) did.pins in omega (arith, a, b, e);
    absent = subst (λ (y : Site). (p : ℕ) → p < all_pages (plan_at y) → Has (page_cell (plan_at y) p) s'.hand.turns → frame_in (part_seen s' (page_cell (plan_at y) p)) ≡ None) (sym home)
        (λ p lt turn. let had = subst (Has (page_cell (plan_of s) p)) did.turns turn in ap frame_in (did.parts (page_cell (plan_of s) p) had) ∙ may.look.absent p lt had);
  };
  no_frame = subst (λ (y : Site). (f : ℕ) → f < all_frames (plan_at y) → Has (frame_cell (plan_at y) f) s'.hand.turns → ⊥) (sym home)
      (λ f lt turn. may.no_frame f lt (subst (Has (frame_cell (plan_of s) f)) did.turns turn));
  enclave = may.enclave;
  turn = clock_stays s s' made (Some may.enclave) clock clock' did moves may.turn;
} where
  home : s'.hand.home ≡ s.hand.home
  home = did.goes.home

-- what was seen then stands behind what is seen now
history_append : (past : History) (xs ys : List (Event Stamp Part)) → history_after past (xs ++ ys) ≡ history_after (history_after past xs) ys
history_append past [] ys = refl
history_append past (x ∷ xs) ys = history_append (x.entry.entry ∷ past) xs ys

history_more : (past : History) (es : List (Event Stamp Part)) → (more : History) × (history_after past es ≡ more ++ past)
history_more past [] = ([], refl)
history_more past (e ∷ es) = let rest = history_more (e.entry.entry ∷ past) es in (rest.0 ++ e.entry.entry ∷ [], rest.1 ∙ sym (append_assoc rest.0 (e.entry.entry ∷ []) past))

-- the history that a pass has seen grows in front
pub seen_on : (s s' : PassState) (made : List Made) → Goes core_terms s.hand s'.hand made → (more : History) × (seen s' ≡ more ++ seen s)
seen_on s s' made goes = let rest = history_more (seen s) goes.more in (rest.0, ap history_of goes.sees ∙ (history_append [] s.hand.seen goes.more ∙ rest.1))

-- an evict stays one where more is seen and more is noted
evict_on : (z : Site) (all all' : History) (ws ws' : List Looked) (number : ℕ) (one : Made) → (more : History) × (all' ≡ more ++ all) → StaysFree ws ws' → IsEvict z all ws number one → IsEvict z all' ws' number one
evict_on z all all' ws ws' number one more keeps is = record {
  page = is.page;
  frame = is.frame;
  is = is.is;
  noted = keeps is.frame is.noted;
  past = is.past;
  place = is.place;
  stands = (more.0 ++ is.stands.0, more.1 ∙ (ap (λ h. more.0 ++ h) is.stands.1 ∙ sym (append_assoc more.0 is.stands.0 (one.1.entry ∷ is.past))));
  legal = is.legal;
}

module _ {P : Type 0} (port : Ghosts P) (host : store.Ghosts P) where
  -- and so do these
  pub evicts_on : (z : Site) (all all' : History) (ws ws' : List Looked) (number : ℕ) (made : List Made) (before tap : TapState P) → (more : History) × (all' ≡ more ++ all) → StaysFree ws ws'
      → AreEvicts port host z all ws number made before tap → AreEvicts port host z all' ws' number made before tap
  unfolding evict_on
  evicts_on z all all' ws ws' number [] before tap more keeps same = same
  evicts_on z all all' ws ws' number (one ∷ made) before tap more keeps evicts =
      (evict_on z all all' ws ws' number one more keeps evicts.0, evicts.1, evicts.2, evicts_on z all all' ws ws' number made evicts.1 tap more keeps evicts.3)

  -- one more behind them
  pub evicts_more : (z : Site) (all : History) (ws : List Looked) (number : ℕ) (made : List Made) (one : Made) (before middle tap : TapState P) → AreEvicts port host z all ws number made before middle
      → (is : IsEvict z all ws number one) → HasCrossed port host middle tap [] (puts_of (plan_at z) (seals_at z) one.1.entry is.past) → AreEvicts port host z all ws number (made ++ one ∷ []) before tap
  evicts_more z all ws number [] one before middle tap same is crossed = (is, tap, subst (λ (y : TapState P). HasCrossed port host y tap [] (puts_of (plan_at z) (seals_at z) one.1.entry is.past)) same crossed, refl)
  evicts_more z all ws number (first ∷ made) one before middle tap evicts is crossed =
      (evicts.0, evicts.1, evicts.2, evicts_more z all ws number made one evicts.1 middle tap evicts.3 is crossed)
