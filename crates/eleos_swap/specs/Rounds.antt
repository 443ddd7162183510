-- A round of the swapper.
use Rattle.std.specs.Prelude.{◌≡◌, ℕ, ◌+◌, ◌<◌, ◌≤◌, List, [], ◌∷◌, ◌++◌, length, true, Some}
use Rattle.eleos_base.specs.Places.{all_frames}
use Rattle.eleos_core.specs.Legal.{CoreStep, IsActor}
use Rattle.eleos_core.specs.Parts.{Made}
use Rattle.eleos_core.specs.State.{History}
use Rattle.eleos_host.specs.declared.port.HostPort.{Ghosts}
use Rattle.eleos_host.specs.declared.port.HostStore as store
use Rattle.eleos_host.specs.Taps.{TapState}
use Rattle.eleos_plot.specs.Terms.{core_terms}
use Rattle.eleos_turn.specs.Hands.{Goes, links_on}
use Rattle.eleos_turn.specs.Numbers.{times}
use Rattle.eleos_machine.specs.declared.holding.ClockTurn.{ClockTurn}
use Rattle.eleos_machine.specs.Holding.{HasClock}
use Rattle.eleos_machine.specs.Machines.{Site, plan_at}
use Rattle.eleos_machine.specs.Passes.{PassState, plan_of, seals_of, seen}
use Rattle.eleos_clock.specs.Frees.{AreFree}
use Rattle.eleos_clock.specs.Searches.{MaySearch}
use Rattle.eleos_swap.specs.declared.ends.RoundEnd.{RoundEnd}
use Rattle.eleos_swap.specs.Evicts.{AreEvictsOf}
use Rattle.eleos_swap.specs.Surveys.{round_stamp}

-- the pass is of this machine and has a number and no turn, each of its pins covers a link, and it has a stamp for each frame and one more
pub record CanSwap (z : Site) (e : ℕ) (s : PassState) : Type 0 where
  pub own : s.hand.home ≡ z
  pub actor : IsActor (plan_at z) s.hand.number
  pub enclave : e < length (plan_at z).enclaves
  pub no_turn : s.hand.turns ≡ []
  pub left : all_frames (plan_at z) + 1 ≤ s.hand.left
  pub covered : (c : ℕ) → times c s.hand.pins ≤ links_on core_terms s.hand c

-- the pass has the turn of the enclave's clock cell alone, and noted frames as free in a search that began after its last survey
pub record Begins (z : Site) (s : PassState) (e : ℕ) (clock : ClockTurn) (s' : PassState) : Type 0 where
  pub goes : Goes core_terms s.hand s'.hand []
  pub turns : s'.hand.turns ≡ clock.number ∷ []
  pub has : HasClock s' (Some e) clock
  pub may : MaySearch z s' clock
  pub free : AreFree clock.clock s'.sweep.words
  pub since_survey : s'.sweep.since_survey ≡ true
  pub pins : s'.hand.pins ≡ s.hand.pins
  pub links : (c : ℕ) → links_on core_terms s'.hand c ≡ links_on core_terms s.hand c
  pub pointers : s'.pointers ≡ s.pointers

module _ {P : Type 0} (port : Ghosts P) (host : store.Ghosts P) where
  -- the pass evicted pages, no more than frames were wanted, from frames that its sweep has with 0, and the host took just what they seal. Then it stamped
  -- one survey with that sweep. It has no turn, and the pins, links and pointers that it had.
  pub record Swaps (s : PassState) (before : TapState P) (e low : ℕ) (end : RoundEnd) (s' : PassState) (tap : TapState P) : Type 0 where
    pub evicts : List Made
    pub past : History
    pub goes : Goes core_terms s.hand s'.hand (evicts ++ (length past, round_stamp s e low end s'.sweep.words) ∷ [])
    pub evicted : AreEvictsOf port host s s' evicts before tap
    pub wanted : length evicts ≤ low
    pub sees : seen s' ≡ (round_stamp s e low end s'.sweep.words).entry ∷ past
    pub legal : CoreStep (plan_of s) (seals_of s) past (round_stamp s e low end s'.sweep.words).entry
    pub no_turn : s'.hand.turns ≡ []
    pub pins : s'.hand.pins ≡ s.hand.pins
    pub links : (c : ℕ) → links_on core_terms s'.hand c ≡ links_on core_terms s.hand c
    pub pointers : s'.pointers ≡ s.pointers
