-- The change of an enclave's share.
use Rattle.std.specs.Prelude.{◌≡◌, ◌⊎◌, ℕ, ◌<◌, List, [], ◌∷◌, ◌++◌, length, Bool, true}
use Rattle.std.specs.List.{AllByRecursion}
use Rattle.eleos_core.specs.Legal.{CoreStep}
use Rattle.eleos_core.specs.State.{History}
use Rattle.eleos_host.specs.declared.port.HostPort.{Ghosts}
use Rattle.eleos_host.specs.declared.port.HostStore as store
use Rattle.eleos_host.specs.Taps.{TapState}
use Rattle.eleos_plot.specs.Terms.{core_terms}
use Rattle.eleos_turn.specs.Hands.{Goes, links_on}
use Rattle.eleos_machine.specs.declared.holding.ClockTurn.{ClockTurn}
use Rattle.eleos_machine.specs.Passes.{PassState, plan_of, seals_of, seen}
use Rattle.eleos_clock.specs.Lists.{AllNoted}
use Rattle.eleos_balloon.specs.declared.ends.BalloonEnd.{BalloonEnd}
use Rattle.eleos_balloon.specs.declared.went.Went.{Went}
use Rattle.eleos_balloon.specs.Ends.{IsOfWay, share_stamp}
use Rattle.eleos_balloon.specs.Gathers.{Gathering, HasEnough}
use Rattle.eleos_balloon.specs.Holds.{Holds}
use Rattle.eleos_balloon.specs.Steps.{AreGone, IsEntry, IsOneWay, all_entries, move_entry}

-- the enclave has as many frames as wanted, or more, and the notes have each with a word that shows
-- pins or BUSY
abbrev pub HasFew : ClockTurn → ℕ → PassState → Type 0
HasFew clock to s = (length clock.clock ≡ to) ⊎ ((to < length clock.clock) × AllNoted clock.clock true s.sweep.words)

-- the pass may end a change in which the enclave gave frames
pub record MayEndRelease (s : PassState) (e : ℕ) (clock : ClockTurn) (to : ℕ) : Type 0 where
  pub holds : Holds e clock s
  pub left : 0 < s.hand.left
  pub stop : HasFew clock to s

-- and one in which it got them
pub record MayEndGather (s : PassState) (e : ℕ) (clock pool : ClockTurn) (to : ℕ) : Type 0 where
  pub holds : Gathering e clock pool s
  pub left : 0 < s.hand.left
  pub stop : HasEnough clock pool to s.sweep.words

-- the pass stamped the survey of the enclave's share with its sweep, whose reply is this end, and
-- has no turn; pins and links are as before
pub record EndsShare (s : PassState) (e to : ℕ) (gets : Bool) (end : BalloonEnd) (s' : PassState) : Type 0 where
  pub past : History
  pub goes : Goes core_terms s.hand s'.hand ((length past, share_stamp s.hand.number e to end s'.sweep.words) ∷ [])
  pub way : IsOfWay gets end
  pub sees : seen s' ≡ (share_stamp s.hand.number e to end s'.sweep.words).entry ∷ past
  pub legal : CoreStep (plan_of s) (seals_of s) past (share_stamp s.hand.number e to end s'.sweep.words).entry
  pub no_turn : s'.hand.turns ≡ []
  pub pins : s'.hand.pins ≡ s.hand.pins
  pub links : (c : ℕ) → links_on core_terms s'.hand c ≡ links_on core_terms s.hand c

-- frames went one way by entries of the pass, and then it stamped that survey
pub record Ends (s : PassState) (e to : ℕ) (gets : Bool) (went : List Went) (end : BalloonEnd) (s' : PassState) : Type 0 where
  pub past : History
  pub goes : Goes core_terms s.hand s'.hand (all_entries s.hand.number gets e went ++ (length past, share_stamp s.hand.number e to end s'.sweep.words) ∷ [])
  pub way : IsOfWay gets end
  pub sees : seen s' ≡ (share_stamp s.hand.number e to end s'.sweep.words).entry ∷ past
  pub legal : CoreStep (plan_of s) (seals_of s) past (share_stamp s.hand.number e to end s'.sweep.words).entry
  pub no_turn : s'.hand.turns ≡ []
  pub pins : s'.hand.pins ≡ s.hand.pins
  pub links : (c : ℕ) → links_on core_terms s'.hand c ≡ links_on core_terms s.hand c

-- frames went from the pool to the enclave, and then the pass stamped its survey
pub record Gets (s : PassState) (e to : ℕ) (end : BalloonEnd) (s' : PassState) : Type 0 where
  pub went : List Went
  pub moved : AllByRecursion (λ (one : Went). IsEntry s.hand.home (seen s') (move_entry s.hand.number true e one) × IsOneWay true one) went
  pub ends : Ends s e to true went end s'

module _ {P : Type 0} (port : Ghosts P) (host : store.Ghosts P) where
  -- frames went, all to the enclave or all to the pool, and each page in one left it first. Then
  -- the pass stamped one survey with its sweep, whose reply is this
  -- end. It has no turn, and the pins and links that it had.
  pub record Shares (s : PassState) (before : TapState P) (e to : ℕ) (end : BalloonEnd) (s' : PassState) (tap : TapState P) : Type 0 where
    pub gets : Bool
    pub went : List Went
    pub gone : AreGone port host s.hand.home (seen s') s.hand.number gets e went before tap
    pub ends : Ends s e to gets went end s'
