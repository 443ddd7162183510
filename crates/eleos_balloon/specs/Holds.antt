-- What a pass has in hand while it changes a share.
use Rattle.std.specs.Prelude.{◌≡◌, ℕ, ◌+◌, ◌*◌, ◌<◌, ◌≤◌, List, [], ◌∷◌, length, true, Some, None}
use Rattle.eleos_base.specs.Places.{all_frames}
use Rattle.eleos_core.specs.Legal.{IsActor}
use Rattle.eleos_core.specs.Parts.{Made}
use Rattle.eleos_plot.specs.Terms.{core_terms}
use Rattle.eleos_turn.specs.Hands.{Goes, links_on}
use Rattle.eleos_turn.specs.Numbers.{times}
use Rattle.eleos_machine.specs.declared.holding.ClockTurn.{ClockTurn}
use Rattle.eleos_machine.specs.Holding.{HasClock}
use Rattle.eleos_machine.specs.Machines.{Site, plan_at}
use Rattle.eleos_machine.specs.Passes.{IsLawful, PassState, plan_of}
use Rattle.eleos_clock.specs.Searches.{Searches}

-- the pass is of this machine and has a number and no turn, each of its pins covers a link, and it
-- has two stamps for each frame and one more
pub record CanShare (z : Site) (e : ℕ) (s : PassState) : Type 0 where
  pub own : s.hand.home ≡ z
  pub actor : IsActor (plan_at z) s.hand.number
  pub enclave : e < length (plan_at z).enclaves
  pub no_turn : s.hand.turns ≡ []
  pub left : 2 * all_frames (plan_at z) + 1 ≤ s.hand.left
  pub covered : (c : ℕ) → times c s.hand.pins ≤ links_on core_terms s.hand c

-- the pass has a number, these turns, among them that of the enclave's clock cell, and each of its
-- pins covers a link. Its search began after its last survey.
pub record HoldsWith (e : ℕ) (taken : List ℕ) (clock : ClockTurn) (s : PassState) : Type 0 where
  pub actor : IsActor (plan_of s) s.hand.number
  pub turns : s.hand.turns ≡ taken
  pub has : HasClock s (Some e) clock
  pub covered : (c : ℕ) → times c s.hand.pins ≤ links_on core_terms s.hand c
  pub since_survey : s.sweep.since_survey ≡ true

-- it has no other turn
abbrev pub Holds : ℕ → ClockTurn → PassState → Type 0
Holds e clock s = HoldsWith e (clock.number ∷ []) clock s

-- the pass made these entries, and has the pins and links that it had
pub record MakesAll (s : PassState) (made : List Made) (s' : PassState) : Type 0 where
  pub goes : Goes core_terms s.hand s'.hand made
  pub pins : s'.hand.pins ≡ s.hand.pins
  pub links : (c : ℕ) → links_on core_terms s'.hand c ≡ links_on core_terms s.hand c

-- the pass took the turn of the enclave's clock cell, and emptied its sweep
pub record Begins (s : PassState) (e : ℕ) (clock : ClockTurn) (s' : PassState) : Type 0 where
  pub made : MakesAll s [] s'
  pub holds : Holds e clock s'
  pub no_words : s'.sweep.words ≡ []

-- the pass took the turn of the pool's clock cell beside those that it had
pub record TookPool (s : PassState) (pool : ClockTurn) (s' : PassState) : Type 0 where
  pub searches : Searches s s'
  pub has : HasClock s' None pool
  pub turns : s'.hand.turns ≡ pool.number ∷ s.hand.turns
  pub words : s'.sweep.words ≡ s.sweep.words
  pub lawful : IsLawful s'
