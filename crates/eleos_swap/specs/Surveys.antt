-- The survey that ends a round.
use Rattle.std.specs.Prelude.{◌≡◌, ℕ, ◌<◌, ◌≤◌, List, [], ◌∷◌, length, true, Some}
use Rattle.eleos_base.specs.declared.memory.Looked.{Looked}
use Rattle.eleos_core.specs.declared.event.Goal.TheVariants.{Low}
use Rattle.eleos_core.specs.Legal.{CoreStep, IsActor}
use Rattle.eleos_core.specs.Parts.{Stamp}
use Rattle.eleos_core.specs.Quiet.{survey_stamp}
use Rattle.eleos_core.specs.State.{History}
use Rattle.eleos_plot.specs.Terms.{core_terms}
use Rattle.eleos_turn.specs.Hands.{Goes, links_on}
use Rattle.eleos_turn.specs.Numbers.{less_one}
use Rattle.eleos_machine.specs.declared.holding.ClockTurn.{ClockTurn}
use Rattle.eleos_machine.specs.Holding.{HasClock}
use Rattle.eleos_machine.specs.Passes.{PassState, plan_of, seals_of, seen}
use Rattle.eleos_swap.specs.declared.ends.RoundEnd.{RoundEnd}
use Rattle.eleos_swap.specs.Ends.{IsEnd, MayStop, end_reply}
use Rattle.eleos_swap.specs.Making.{StaysFree}

-- the entry that ends a round with these words
abbrev pub round_stamp : PassState → ℕ → ℕ → RoundEnd → List Looked → Stamp
round_stamp s e low end words = survey_stamp s.hand.number e (Low low) words (end_reply end)

-- the pass may end its round of the enclave: it has the turn of the clock cell, a number and a stamp, and what it noted it noted after its last survey
pub record MayEnd (s : PassState) (e : ℕ) (clock : ClockTurn) (low : ℕ) : Type 0 where
  pub actor : IsActor (plan_of s) s.hand.number
  pub left : 0 < s.hand.left
  pub has : HasClock s (Some e) clock
  pub since_survey : s.sweep.since_survey ≡ true
  pub stop : MayStop clock.clock low s.sweep.words

-- the survey was stamped with what the pass has noted then, and the turn of the clock cell went back. Frames that were noted as free stay so; pins, links and pointers are as before.
pub record EndsRound (s : PassState) (e : ℕ) (clock : ClockTurn) (low : ℕ) (end : RoundEnd) (s' : PassState) : Type 0 where
  pub past : History
  pub goes : Goes core_terms s.hand s'.hand ((length past, round_stamp s e low end s'.sweep.words) ∷ [])
  pub sees : seen s' ≡ (round_stamp s e low end s'.sweep.words).entry ∷ past
  pub legal : CoreStep (plan_of s) (seals_of s) past (round_stamp s e low end s'.sweep.words).entry
  pub keeps : StaysFree s.sweep.words s'.sweep.words
  pub turns : s'.hand.turns ≡ less_one clock.number s.hand.turns
  pub pins : s'.hand.pins ≡ s.hand.pins
  pub links : (c : ℕ) → links_on core_terms s'.hand c ≡ links_on core_terms s.hand c
  pub pointers : s'.pointers ≡ s.pointers

-- the end may be stamped
pub record MaySurvey (s : PassState) (e : ℕ) (clock : ClockTurn) (low : ℕ) (end : RoundEnd) : Type 0 where
  pub actor : IsActor (plan_of s) s.hand.number
  pub left : 0 < s.hand.left
  pub has : HasClock s (Some e) clock
  pub since_survey : s.sweep.since_survey ≡ true
  pub few : length s.sweep.words ≤ 512
  pub end_is : IsEnd clock.clock low s.sweep.words end

-- the end was stamped, and nothing else happened
pub record Surveys (s : PassState) (e : ℕ) (clock : ClockTurn) (low : ℕ) (end : RoundEnd) (s' : PassState) : Type 0 where
  pub past : History
  pub goes : Goes core_terms s.hand s'.hand ((length past, round_stamp s e low end s.sweep.words) ∷ [])
  pub sees : seen s' ≡ (round_stamp s e low end s.sweep.words).entry ∷ past
  pub legal : CoreStep (plan_of s) (seals_of s) past (round_stamp s e low end s.sweep.words).entry
  pub has : HasClock s' (Some e) clock
  pub turns : s'.hand.turns ≡ s.hand.turns
  pub pins : s'.hand.pins ≡ s.hand.pins
  pub links : (c : ℕ) → links_on core_terms s'.hand c ≡ links_on core_terms s.hand c
  pub pointers : s'.pointers ≡ s.pointers
  pub words : s'.sweep.words ≡ s.sweep.words
