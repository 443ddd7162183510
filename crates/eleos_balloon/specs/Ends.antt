-- How a change of a share ends.
use Rattle.std.specs.Prelude.{◌≡◌, ◌≢◌, ℕ, ◌<◌, ◌≤◌, List, [], ◌∷◌, length, Bool, true, false, Some, None}
use Rattle.eleos_base.specs.declared.memory.Looked.{Looked}
use Rattle.eleos_base.specs.declared.memory.Reply.{Reply}
use Rattle.eleos_base.specs.declared.memory.Reply.TheVariants as replies
use Rattle.eleos_base.specs.Places.{Owner}
use Rattle.eleos_core.specs.declared.event.Goal.TheVariants.{To}
use Rattle.eleos_core.specs.Legal.{CoreStep, IsActor}
use Rattle.eleos_core.specs.Parts.{Stamp}
use Rattle.eleos_core.specs.Quiet.{survey_stamp}
use Rattle.eleos_core.specs.State.{History}
use Rattle.eleos_core.specs.Sweeps.{IsShort, IsTaken}
use Rattle.eleos_plot.specs.Terms.{core_terms}
use Rattle.eleos_turn.specs.Hands.{Goes, links_on}
use Rattle.eleos_machine.specs.declared.holding.ClockTurn.{ClockTurn}
use Rattle.eleos_machine.specs.Holding.{HasClock}
use Rattle.eleos_machine.specs.Notes.{cleared}
use Rattle.eleos_machine.specs.Passes.{PassState, plan_of, seals_of, seen}
use Rattle.eleos_balloon.specs.declared.ends.BalloonEnd.{BalloonEnd}
use Rattle.eleos_balloon.specs.declared.ends.BalloonEnd.TheVariants.{Done, Short, Pinned}

-- the end as a reply
abbrev pub end_reply : BalloonEnd → Reply
end_reply (Done reached) = replies.Reached reached
end_reply (Short reached) = replies.Short reached
end_reply (Pinned reached) = replies.Pinned reached

-- the entry that ends a change of the enclave's share, with these words
abbrev pub share_stamp : ℕ → ℕ → ℕ → BalloonEnd → List Looked → Stamp
share_stamp number e to end words = survey_stamp number e (To to) words (end_reply end)

-- the pool has no frame but those that the words name, each as BUSY, and the pass has the turn of
-- its clock cell
pub record IsPoolBusy (s : PassState) : Type 0 where
  pub pool : ClockTurn
  pub has : HasClock s None pool
  pub short : IsShort pool.clock s.sweep.words

-- the end, of an enclave with these frames
abbrev pub IsEnd : PassState → List ℕ → ℕ → BalloonEnd → Type 0
IsEnd s list to (Done reached) = (reached ≡ length list) × (reached ≡ to) × (s.sweep.words ≡ [])
IsEnd s list to (Pinned reached) = (reached ≡ length list) × (to < reached) × IsTaken s.sweep.words list
IsEnd s list to (Short reached) = (reached ≡ length list) × (reached < to) × IsPoolBusy s

-- an end that falls short comes of its way alone
abbrev pub IsOfWay : Bool → BalloonEnd → Type 0
IsOfWay gets (Done reached) = Unit {0}
IsOfWay gets (Short reached) = gets ≡ true
IsOfWay gets (Pinned reached) = gets ≡ false

-- the pass may stamp the end of a change: it has the turn of the clock cell, a number and a stamp,
-- and what it noted it noted after its last survey
pub record MaySurvey (s : PassState) (e : ℕ) (clock : ClockTurn) (to : ℕ) (end : BalloonEnd) : Type 0 where
  pub actor : IsActor (plan_of s) s.hand.number
  pub left : 0 < s.hand.left
  pub has : HasClock s (Some e) clock
  pub since_survey : s.sweep.since_survey ≡ true
  pub few : length s.sweep.words ≤ 512
  pub end_is : IsEnd s clock.clock to end

-- the survey was stamped, and turns, pins, links, notes and clock cells in hand are as before
pub record Surveys (s : PassState) (e : ℕ) (to : ℕ) (end : BalloonEnd) (s' : PassState) : Type 0 where
  pub past : History
  pub goes : Goes core_terms s.hand s'.hand ((length past, share_stamp s.hand.number e to end s.sweep.words) ∷ [])
  pub sees : seen s' ≡ (share_stamp s.hand.number e to end s.sweep.words).entry ∷ past
  pub legal : CoreStep (plan_of s) (seals_of s) past (share_stamp s.hand.number e to end s.sweep.words).entry
  pub turns : s'.hand.turns ≡ s.hand.turns
  pub pins : s'.hand.pins ≡ s.hand.pins
  pub links : (c : ℕ) → links_on core_terms s'.hand c ≡ links_on core_terms s.hand c
  pub words : s'.sweep.words ≡ s.sweep.words
  pub clocks : (owner : Owner) (clock : ClockTurn) → HasClock s owner clock → HasClock s' owner clock

-- the end by the share that was reached, and the notes that stay
abbrev pub EndsBy : PassState → Bool → ℕ → ℕ → BalloonEnd → PassState → Type 0
EndsBy s gets reached to (Done share) s' = (share ≡ reached) × (reached ≡ to) × (s' ≡ record s { sweep = cleared true s.sweep })
EndsBy s gets reached to (Short share) s' = (share ≡ reached) × (reached ≢ to) × (gets ≡ true) × (s' ≡ s)
EndsBy s gets reached to (Pinned share) s' = (share ≡ reached) × (reached ≢ to) × (gets ≡ false) × (s' ≡ s)
