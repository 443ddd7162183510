-- What a pass made while it kept the turns that it had.
use Rattle.std.specs.Prelude.{◌≡◌, ℕ, List, [], ◌∷◌, ◌++◌, length, true}
use Rattle.eleos_base.specs.declared.memory.Looked.{Looked}
use Rattle.eleos_base.specs.Ties.{Has}
use Rattle.eleos_core.specs.declared.event.Entry.{Entry}
use Rattle.eleos_core.specs.Applying.{puts_of}
use Rattle.eleos_core.specs.Evicts.{evict_stamp}
use Rattle.eleos_core.specs.Legal.{CoreStep}
use Rattle.eleos_core.specs.Parts.{Made}
use Rattle.eleos_core.specs.State.{History}
use Rattle.eleos_host.specs.declared.port.HostPort.{Ghosts}
use Rattle.eleos_host.specs.declared.port.HostStore as store
use Rattle.eleos_host.specs.Taps.{TapState}
use Rattle.eleos_pages.specs.Crossed.{HasCrossed}
use Rattle.eleos_plot.specs.Cells.{is_hand_within}
use Rattle.eleos_plot.specs.Terms.{core_terms}
use Rattle.eleos_turn.specs.Hands.{Goes, links_on}
use Rattle.eleos_machine.specs.declared.holding.ClockTurn.{ClockTurn}
use Rattle.eleos_machine.specs.Machines.{Site, plan_at, seals_at}
use Rattle.eleos_machine.specs.Notes.{is_noted_free}
use Rattle.eleos_machine.specs.Passes.{PassState, part_seen}

-- the pass made these entries, each with its stamp. It has the turns, pins, links and pointers that it had, and the cells whose turns it has are as before.
pub record Makes (s : PassState) (made : List Made) (s' : PassState) : Type 0 where
  pub goes : Goes core_terms s.hand s'.hand made
  pub turns : s'.hand.turns ≡ s.hand.turns
  pub pins : s'.hand.pins ≡ s.hand.pins
  pub links : (c : ℕ) → links_on core_terms s'.hand c ≡ links_on core_terms s.hand c
  pub pointers : s'.pointers ≡ s.pointers
  pub parts : (c : ℕ) → Has c s.hand.turns → part_seen s' c ≡ part_seen s c
  pub since_survey : s'.sweep.since_survey ≡ s.sweep.since_survey

-- the same clock, with its hand within its list
pub record HandMoves (clock clock' : ClockTurn) : Type 0 where
  pub same : clock' ≡ record clock { hand = clock'.hand }
  pub within : is_hand_within clock.clock clock'.hand ≡ true

-- the entry stands in the first history, behind the second
abbrev pub StandsIn : History → History → Entry → Type 0
StandsIn all past e = (more : History) × (all ≡ more ++ e ∷ past)

-- frames that the first words have as free the second have as free too
abbrev pub StaysFree : List Looked → List Looked → Type 0
StaysFree words words' = (f : ℕ) → is_noted_free f words ≡ true → is_noted_free f words' ≡ true

-- an evict by the pass of this number, from a frame that the words have as free: legal where it stands in the history
pub record IsEvict (z : Site) (all : History) (words : List Looked) (number : ℕ) (one : Made) : Type 0 where
  pub page : ℕ
  pub frame : ℕ
  pub is : one.1 ≡ evict_stamp number page frame
  pub noted : is_noted_free frame words ≡ true
  pub past : History
  pub place : one.0 ≡ length past
  pub stands : StandsIn all past one.1.entry
  pub legal : CoreStep (plan_at z) (seals_at z) past one.1.entry

module _ {P : Type 0} (port : Ghosts P) (host : store.Ghosts P) where
  -- such evicts, one after another. For each the tap began once, and since then the host took just the blocks that it seals, each for its place and in order, and gave none.
  abbrev pub AreEvicts : Site → History → List Looked → ℕ → List Made → TapState P → TapState P → Type 0
  AreEvicts z all words number [] before tap = tap ≡ before
  AreEvicts z all words number (one ∷ made) before tap =
      (is : IsEvict z all words number one) × (next : TapState P)
      × HasCrossed port host before next [] (puts_of (plan_at z) (seals_at z) one.1.entry is.past) × AreEvicts z all words number made next tap
