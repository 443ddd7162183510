-- What a pass came to by entries of its own.
use Rattle.std.specs.Prelude.{◌≡◌, ℕ, List, ◌∷◌, ◌++◌, length}
use Rattle.eleos_core.specs.Legal.{CoreStep}
use Rattle.eleos_core.specs.Parts.{Made}
use Rattle.eleos_core.specs.State.{History}
use Rattle.eleos_plot.specs.Terms.{core_terms}
use Rattle.eleos_turn.specs.Hands.{Goes, links_on}
use Rattle.eleos_machine.specs.Machines.{Site, plan_at, seals_at}
use Rattle.eleos_machine.specs.Passes.{IsLawful, PassState}

-- the entry is legal where it stands in the history of the machine
pub record Stands (z : Site) (all : History) (one : Made) : Type 0 where
  pub past : History
  pub place : one.0 ≡ length past
  pub later : History
  pub behind : all ≡ later ++ one.1.entry ∷ past
  pub legal : CoreStep (plan_at z) (seals_at z) past one.1.entry

-- the pass made these entries and has these turns; its pins, links and pointers are as before
pub record Reaches (s : PassState) (made : List Made) (held : List ℕ) (s' : PassState) : Type 0 where
  pub goes : Goes core_terms s.hand s'.hand made
  pub turns : s'.hand.turns ≡ held
  pub pins : s'.hand.pins ≡ s.hand.pins
  pub links : (c : ℕ) → links_on core_terms s'.hand c ≡ links_on core_terms s.hand c
  pub pointers : s'.pointers ≡ s.pointers
  pub lawful : IsLawful s'
