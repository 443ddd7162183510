-- What a pass has in hand while it changes a share, from step to step.
use Rattle.std.proofs.Common.{◌≡◌, ◌≢◌, ⊎_elim, ℕ, ◌<◌, List, [], ◌∷◌, ◌++◌, cond, true, Some, refl, sym, ◌∙◌, ap, subst, arith}
use Rattle.std.proofs.lemmas.Bool.{eq-eqb, ne_eqb}
use Rattle.eleos_base.specs.Ties.{Has}
use Rattle.eleos_core.specs.Legal.{IsActor, IsOwner}
use Rattle.eleos_core.specs.Parts.{Made, Stamp, clock_cell, frame_cell, page_cell}
use Rattle.eleos_base.specs.Places.{Owner}
use Rattle.eleos_plot.specs.Cells.{is_hand_within}
use Rattle.eleos_plot.specs.Terms.{core_terms}
use Rattle.eleos_turn.specs.Numbers.{less_one, times}
use Rattle.eleos_turn.proofs.Clients.{goes_trans}
use Rattle.eleos_machine.specs.declared.holding.ClockTurn.{ClockTurn}
use Rattle.eleos_machine.specs.Holding.{HasClock}
use Rattle.eleos_machine.specs.Machines.{Site, plan_at}
use Rattle.eleos_machine.specs.Passes.{PassState, last_stamp, part_seen, plan_of}
use Rattle.eleos_clock.specs.Searches.{MaySearch, Searches}
use Rattle.eleos_balloon.specs.Holds.{Holds, HoldsWith, MakesAll}

-- a turn that is given back, the first one and another one
pub less_first : (c : ℕ) (cs : List ℕ) → less_one c (c ∷ cs) ≡ cs
less_first c cs = ap (λ v. cond v cs (c ∷ less_one c cs)) (eq-eqb c c refl)

-- another one stays
pub less_other : (c d : ℕ) (cs : List ℕ) → c ≢ d → less_one c (d ∷ cs) ≡ d ∷ less_one c cs
less_other c d cs ne = ap (λ v. cond v cs (d ∷ less_one c cs)) (ne_eqb c d ne)

-- one more is the last
pub last_is : (xs : List Made) (n : ℕ) (d : Stamp) → last_stamp (xs ++ (n, d) ∷ []) ≡ n
last_is [] n d = refl
last_is (x ∷ []) n d = refl
last_is (x ∷ y ∷ xs) n d = last_is (y ∷ xs) n d

-- a clock cell in hand, where all else may differ
pub clock_as : (s s' : PassState) (o : Owner) (clock : ClockTurn) → s'.hand.home ≡ s.hand.home → Has clock.number s'.hand.turns → part_seen s' clock.number ≡ part_seen s clock.number → HasClock s o clock → HasClock s' o clock
clock_as s s' o clock home turn same has = record {
  known = subst (λ (y : Site). IsOwner (plan_at y) o) (sym home) has.known;
  number = subst (λ (y : Site). clock.number ≡ clock_cell (plan_at y) o) (sym home) has.number;
  turn = turn;
  value = has.value ∙ sym same;
  hand_within = has.hand_within;
}

-- with another hand
pub clock_hand : (s : PassState) (o : Owner) (clock clock' : ClockTurn) → clock' ≡ record clock { hand = clock'.hand } → is_hand_within clock.clock clock'.hand ≡ true → HasClock s o clock → HasClock s o clock'
clock_hand s o clock clock' same within has = subst (HasClock s o) (sym same) (record { known = has.known; number = has.number; turn = has.turn; value = has.value; hand_within = within })

-- a search made no entry
pub makes_searched : (s s' : PassState) → Searches s s' → MakesAll s [] s'
makes_searched s s' did = record { goes = did.goes; pins = did.pins; links = did.links }

-- one after another
pub makes_then : (s s' s'' : PassState) (xs ys : List Made) → MakesAll s xs s' → MakesAll s' ys s'' → MakesAll s (xs ++ ys) s''
makes_then s s' s'' xs ys a b = record {
  goes = goes_trans core_terms s.hand s'.hand s''.hand xs ys a.goes b.goes;
  pins = b.pins ∙ a.pins;
  links = λ c. b.links c ∙ a.links c;
}

-- what it has in hand afterwards
pub holds_on : (e : ℕ) (taken taken' : List ℕ) (clock clock' : ClockTurn) (s s' : PassState) (made : List Made) → HoldsWith e taken clock s → MakesAll s made s' → s'.hand.turns ≡ taken' → HasClock s' (Some e) clock' → s'.sweep.since_survey ≡ true
    → HoldsWith e taken' clock' s'
holds_on e taken taken' clock clock' s s' made h m turns has since = record {
  actor = subst (λ (y : Site × ℕ). IsActor (plan_at y.0) y.1) (λ i. (sym m.goes.home i, sym m.goes.number i)) h.actor;
  turns = turns;
  has = has;
  covered = λ c. let a = h.covered c in let b = m.links c in let d = ap (times c) m.pins in omega (arith, a, b, d);
  since_survey = since;
}

module _ (e : ℕ) (clock : ClockTurn) (s : PassState) (h : Holds e clock s) where
  -- the one turn that the pass has
  only : (c : ℕ) → Has c s.hand.turns → c ≡ clock_cell (plan_of s) (Some e)
  only c turn = ⊎_elim (λ (is : c ≡ clock.number). is ∙ h.has.number) (λ (none : ⊥). absurd none) (subst (Has c) h.turns turn)

  -- the pass has a number
  pub made : 0 < s.hand.number
  made = let one = h.actor.from_one in omega (arith, one)

  -- a search may begin
  pub may_search : (z : Site) → s.hand.home ≡ z → MaySearch z s clock
  may_search z own = record {
    look = record {
      own = own;
      made = made;
      covered = h.covered;
      absent = λ p lt turn. absurd (let is = only (page_cell (plan_of s) p) turn in let known = h.has.known in omega (arith, is, known));
    };
    no_frame = λ f lt turn. let is = only (frame_cell (plan_of s) f) turn in let known = h.has.known in omega (arith, is, known);
    enclave = e;
    turn = h.has;
  }
