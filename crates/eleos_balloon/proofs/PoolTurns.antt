-- The turn of the pool's clock cell, once it was taken.
use Rattle.std.proofs.Common.{◌≡◌, inl, ℕ, ◌<◌, ◌∷◌, List, None, refl, sym, ◌∙◌, ap, subst}
use Rattle.eleos_base.specs.Ties.{Has}
use Rattle.eleos_core.specs.Parts.{Cell as Numbered, cell_of, clock_cell}
use Rattle.eleos_core.proofs.CellNumbers.{pool_clock_is}
use Rattle.eleos_plot.specs.declared.cell.Cell.{Cell}
use Rattle.eleos_plot.specs.declared.cell.Cell.TheVariants.{Clock}
use Rattle.eleos_plot.specs.Cells.{part_of_cell}
use Rattle.eleos_plot.specs.Fits.{AreFrames, Fits, IsClock}
use Rattle.eleos_machine.specs.declared.holding.ClockTurn.{ClockTurn}
use Rattle.eleos_machine.specs.Holding.{HasClock, HoldsClock}
use Rattle.eleos_machine.specs.Machines.{Site, plan_at}
use Rattle.eleos_machine.specs.Passes.{IsLawful, PassState, TookTurn, part_seen}
use Rattle.eleos_clock.proofs.Steps.{is_taken as taken_is, searches_took}
use Rattle.eleos_clock.proofs.TakenClocks.{clock_part_is}
use Rattle.eleos_balloon.specs.Holds.{TookPool}

module _ (z : Site) (s : PassState) (number word : ℕ) (x : Cell) (s' : PassState) (own : s.hand.home ≡ z) (made : 0 < s.hand.number)
    (number_is : number ≡ clock_cell (plan_at z) None) (took : TookTurn number word s x s') where
  home : s'.hand.home ≡ z
  home = took.goes.home ∙ own

  turns : s'.hand.turns ≡ number ∷ s.hand.turns
  turns = ap (λ (y : PassState). y.hand.turns) (taken_is number word s x s' took)

  is_clock : IsClock (plan_at z) x
  is_clock = subst (λ (cell : Numbered). Fits (plan_at z) cell x) (ap (cell_of (plan_at z)) number_is ∙ pool_clock_is (plan_at z))
      (subst (λ (y : Site). Fits (plan_at y) (cell_of (plan_at y) number) x) own took.fits)

  -- the value has frames and a hand
  has : (list : List ℕ) (hand : ℕ) → AreFrames (plan_at z) list hand → part_of_cell (Clock list hand) ≡ part_seen s' number → HasClock s' None (record { number = number; clock = list; hand = hand })
  has list hand are value = record {
    known = tt;
    number = number_is ∙ ap (λ (y : Site). clock_cell (plan_at y) None) (sym home);
    turn = subst (Has number) (sym turns) (inl refl);
    value = sym (clock_part_is list hand are.hand_within) ∙ value;
    hand_within = are.hand_within;
  }

  by_cell : (y : Cell) → IsClock (plan_at z) y → part_of_cell y ≡ part_seen s' number → HoldsClock s' number y
  by_cell (Clock list hand) are value = (None, has list hand are value)
  by_cell _ are value = absurd are

  -- so the pass has the turn of a clock cell, with the value that the take answered
  pub holds : HoldsClock s' number x
  holds = by_cell x is_clock took.value

  -- it is the turn of the pool's clock cell
  pub took_pool : (clock : ClockTurn) → IsLawful s' → clock.number ≡ number → Clock clock.clock clock.hand ≡ x → TookPool s clock s'
  took_pool clock law at is = record {
    searches = searches_took number word s x s' made took;
    has = subst (λ (n : ℕ). HasClock s' None (record clock { number = n })) (sym at)
        (has clock.clock clock.hand (subst (IsClock (plan_at z)) (sym is) is_clock) (ap part_of_cell is ∙ took.value));
    turns = turns ∙ ap (λ n. n ∷ s.hand.turns) (sym at);
    words = ap (λ (y : PassState). y.sweep.words) took.rest;
    lawful = law;
  }
