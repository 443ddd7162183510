-- What the steps of a search leave of a pass.
use Rattle.std.proofs.Common.{◌≡◌, inr, ℕ, ◌<◌, ◌≤◌, ◌==◌, List, [], ◌∷◌, Bool, true, false, cond, refl, sym, ◌∙◌, ap, subst, arith, append-nil}
use Rattle.eleos_base.specs.declared.memory.Looked.{Looked}
use Rattle.eleos_base.specs.declared.plot.Event.{Event}
use Rattle.eleos_base.specs.Ties.{Has}
use Rattle.eleos_base.specs.Places.{Owner}
use Rattle.eleos_core.specs.Legal.{IsOwner}
use Rattle.eleos_core.specs.Parts.{Part, Stamp, clock_cell}
use Rattle.eleos_plot.specs.declared.cell.Cell.{Cell}
use Rattle.eleos_plot.specs.declared.plot.Ground.{Ground}
use Rattle.eleos_plot.specs.Terms.{core_terms}
use Rattle.eleos_turn.specs.Hands.{HandState, entries, links_on, with_turn, without_turn}
use Rattle.eleos_turn.specs.Numbers.{times}
use Rattle.eleos_base.specs.Words.{pins_in}
use Rattle.eleos_turn.proofs.Clients.{goes_given, goes_same, goes_trans}
use Rattle.eleos_turn.proofs.Numbers.{has_without, less_has}
use Rattle.eleos_turn.proofs.Sound.{links_more}
use Rattle.eleos_machine.specs.declared.holding.ClockTurn.{ClockTurn}
use Rattle.eleos_machine.specs.Holding.{HasClock}
use Rattle.eleos_machine.specs.Machines.{Site, plan_at}
use Rattle.eleos_machine.specs.Passes.{IsLawful, PassState, TookTurn, gave}
use Rattle.eleos_clock.specs.Searches.{Searches}

-- the pass after a take, with what others made meanwhile
abbrev pub taken : PassState → List (Event Stamp Part) → ℕ → ℕ → PassState
taken s more c n = record s { hand = with_turn s.hand more c n }

-- a take leaves all of the pass but its hand, which has the turn and saw what others made
pub is_taken : (c n : ℕ) (s : PassState) (x : Cell) (s' : PassState) (took : TookTurn c n s x s') → s' ≡ taken s took.took.more c n
is_taken c n s x s' took = took.rest ∙ (λ i. record s { hand = took.took.now i })

-- nothing was done
pub searches_same : (s : PassState) → Searches s s
searches_same s = record {
  goes = goes_same core_terms s.hand;
  draft = refl;
  pins = refl;
  links = λ c. refl;
  parts = λ c has. refl;
  clean = λ c has turn. has;
  pointers = refl;
  since_stamp = refl;
  since_survey = refl;
}

-- the pass with other notes, and with the looks and tries of this hand
abbrev pub other : PassState → List Looked → HandState Stamp Part Ground → PassState
other s words h = record s { hand = record s.hand { looked = h.looked; looks = h.looks; tried = h.tried; misses = h.misses; refused = h.refused }; sweep = record s.sweep { words = words } }

-- to change its notes, and what it looked at and tried, is a part of a search
pub searches_other : (s : PassState) (words : List Looked) (h : HandState Stamp Part Ground) → Searches s (other s words h)
searches_other s words h = record {
  goes = record { home = refl; number = refl; left = omega arith; own = sym (append-nil (entries core_terms s.hand)); more = []; sees = sym (append-nil s.hand.seen) };
  draft = refl;
  pins = refl;
  links = λ c. refl;
  parts = λ c has. refl;
  clean = λ c has turn. has;
  pointers = refl;
  since_stamp = refl;
  since_survey = refl;
}

-- a turn that was given back
pub searches_gave : (s : PassState) (c : ℕ) → times c s.hand.turns ≤ 1 → Searches s (gave s c)
searches_gave s c once = record {
  goes = goes_given core_terms c s.hand (without_turn s.hand c) refl;
  draft = refl;
  pins = refl;
  links = λ d. refl;
  parts = λ d has. refl;
  clean = λ d has turn. has_without c d s.hand.clean has (less_has c d s.hand.turns once turn).1;
  pointers = refl;
  since_stamp = refl;
  since_survey = refl;
}

-- a turn that was taken
pub searches_took : (c n : ℕ) (s : PassState) (x : Cell) (s' : PassState) → 0 < s.hand.number → TookTurn c n s x s' → Searches s s'
searches_took c n s x s' made took = record {
  goes = took.goes;
  draft = ap (λ (y : PassState). y.draft) took.rest;
  pins = ap (λ (h : HandState Stamp Part Ground). h.pins) took.took.now;
  links = λ d. ap (λ (h : HandState Stamp Part Ground). links_on core_terms h d) took.took.now ∙ links_more core_terms s.hand took.took.more s.hand.turns made took.took.others d;
  parts = took.held;
  clean = λ d has turn. subst (λ (h : HandState Stamp Part Ground). Has d h.clean) (sym took.took.now) (more_clean (pins_in n == 0) d has);
  pointers = ap (λ (y : PassState). y.pointers) took.rest;
  since_stamp = ap (λ (y : PassState). y.sweep.since_stamp) took.rest;
  since_survey = ap (λ (y : PassState). y.sweep.since_survey) took.rest;
} where
  more_clean : (b : Bool) (d : ℕ) → Has d s.hand.clean → Has d (cond b (c ∷ s.hand.clean) s.hand.clean)
  more_clean true d has = inr has
  more_clean false d has = has

-- one step after another, where the first gave no turn up
pub searches_then : (a b c : PassState) → IsLawful a → ((d : ℕ) → Has d a.hand.turns → Has d b.hand.turns) → Searches a b → Searches b c → Searches a c
searches_then a b c law keeps first next = record {
  goes = goes_trans core_terms a.hand b.hand c.hand [] [] first.goes next.goes;
  draft = next.draft ∙ first.draft;
  pins = next.pins ∙ first.pins;
  links = λ d. next.links d ∙ first.links d;
  parts = λ d has. next.parts d (keeps d has) ∙ first.parts d has;
  clean = λ d has turn. let held = keeps d (law.hand.clean d has) in next.clean d (first.clean d has held) turn;
  pointers = next.pointers ∙ first.pointers;
  since_stamp = next.since_stamp ∙ first.since_stamp;
  since_survey = next.since_survey ∙ first.since_survey;
}

-- the turn of a clock cell, while it is held
pub clock_kept : (s s' : PassState) (owner : Owner) (clock : ClockTurn) → Searches s s' → Has clock.number s'.hand.turns → HasClock s owner clock → HasClock s' owner clock
clock_kept s s' owner clock did turn has = record {
  known = subst (λ (y : Site). IsOwner (plan_at y) owner) (sym did.goes.home) has.known;
  number = subst (λ (y : Site). clock.number ≡ clock_cell (plan_at y) owner) (sym did.goes.home) has.number;
  turn = turn;
  value = has.value ∙ sym (did.parts clock.number has.turn);
  hand_within = has.hand_within;
}
