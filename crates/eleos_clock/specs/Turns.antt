-- The turn of a clock cell.
use Rattle.std.specs.Prelude.{◌≡◌, ℕ, ◌∷◌, Some}
use Rattle.eleos_machine.specs.declared.holding.ClockTurn.{ClockTurn}
use Rattle.eleos_machine.specs.Holding.{HasClock}
use Rattle.eleos_machine.specs.Passes.{IsLawful, PassState}
use Rattle.eleos_clock.specs.Searches.{Searches}

-- the pass took the turn of the enclave's clock cell beside those that it had
pub record TookClock (s : PassState) (e : ℕ) (clock : ClockTurn) (s' : PassState) : Type 0 where
  pub searches : Searches s s'
  pub has : HasClock s' (Some e) clock
  pub turns : s'.hand.turns ≡ clock.number ∷ s.hand.turns
  pub words : s'.sweep.words ≡ s.sweep.words
  pub lawful : IsLawful s'
