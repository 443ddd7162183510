-- Frames that an enclave gives to the pool.
use Rattle.std.specs.Prelude.{◌≡◌, ◌⊎◌, ℕ, ◌+◌, ◌<◌, List, [], ◌∷◌, length, true, false, Option, Some, None}
use Rattle.eleos_base.specs.Ties.{Has}
use Rattle.eleos_core.specs.Parts.{frame_cell}
use Rattle.eleos_host.specs.declared.port.HostPort.{Ghosts}
use Rattle.eleos_host.specs.declared.port.HostStore as store
use Rattle.eleos_host.specs.Taps.{TapState}
use Rattle.eleos_machine.specs.declared.holding.ClockTurn.{ClockTurn}
use Rattle.eleos_machine.specs.declared.holding.FreeFrame.{FreeFrame}
use Rattle.eleos_machine.specs.Holding.{HasFree}
use Rattle.eleos_machine.specs.Passes.{PassState, plan_of, seen}
use Rattle.eleos_clock.specs.Lists.{AllNoted}
use Rattle.eleos_balloon.specs.declared.went.Went.{Went}
use Rattle.eleos_balloon.specs.Holds.{Holds, HoldsWith, MakesAll}
use Rattle.eleos_balloon.specs.Lists.{without_frame}
use Rattle.eleos_balloon.specs.Steps.{AreGone, HasGone, IsEntry, all_entries, move_entry, went_entries}

-- the pass has the turn of a free frame of the clock's list beside that of the clock cell
pub record MayRelease (e : ℕ) (clock : ClockTurn) (free : FreeFrame) (s : PassState) : Type 0 where
  pub holds : HoldsWith e (frame_cell (plan_of s) free.frame ∷ clock.number ∷ []) clock s
  pub free_is : HasFree s free
  pub listed : Has free.frame clock.clock

-- the frame went to the pool by the one new entry of the pass, with this stamp
pub record Releases (s : PassState) (e f : ℕ) (clock : ClockTurn) (stamp : ℕ) (s' : PassState) (clock' : ClockTurn) : Type 0 where
  pub made : MakesAll s (move_entry s.hand.number false e (record { evicted = None; frame = f; stamp = stamp }) ∷ []) s'
  pub moved : IsEntry s.hand.home (seen s') (move_entry s.hand.number false e (record { evicted = None; frame = f; stamp = stamp }))
  pub holds : Holds e clock' s'
  pub list : clock'.clock ≡ without_frame f clock.clock
  pub fewer : length clock'.clock + 1 ≡ length clock.clock

module _ {P : Type 0} (port : Ghosts P) (host : store.Ghosts P) where
  -- a frame of the enclave went to the pool, and is no more in its list
  pub record ReleasedOne (s : PassState) (before : TapState P) (e : ℕ) (clock : ClockTurn) (went : Went) (s' : PassState) (tap : TapState P) (clock' : ClockTurn) : Type 0 where
    pub made : MakesAll s (went_entries s.hand.number false e went) s'
    pub gone : HasGone port host s.hand.home (seen s') s.hand.number false e went before tap
    pub holds : Holds e clock' s'
    pub list : clock'.clock ≡ without_frame went.frame clock.clock
    pub fewer : length clock'.clock + 1 ≡ length clock.clock

  -- there was none to give: the pass's notes have each frame once, with a word that shows pins or
  -- BUSY
  pub record ReleasedNone (s : PassState) (before : TapState P) (e : ℕ) (clock : ClockTurn) (s' : PassState) (tap : TapState P) (clock' : ClockTurn) : Type 0 where
    pub made : MakesAll s [] s'
    pub noted : AllNoted clock.clock true s'.sweep.words
    pub holds : Holds e clock' s'
    pub same : clock' ≡ clock
    pub no_crossing : tap ≡ before

  -- what a call that gives one frame did, by its answer
  abbrev pub ReleasesOne : PassState → TapState P → ℕ → ClockTurn → Option Went → PassState → TapState P → ClockTurn → Type 0
  ReleasesOne s before e clock None s' tap clock' = ReleasedNone s before e clock s' tap clock'
  ReleasesOne s before e clock (Some went) s' tap clock' = ReleasedOne s before e clock went s' tap clock'

  -- so many frames went to the pool, one after another
  pub record ReleasedSo (s : PassState) (before : TapState P) (e : ℕ) (clock : ClockTurn) (i : ℕ) (s' : PassState) (tap : TapState P) (clock' : ClockTurn) : Type 0 where
    pub went : List Went
    pub made : MakesAll s (all_entries s.hand.number false e went) s'
    pub gone : AreGone port host s.hand.home (seen s') s.hand.number false e went before tap
    pub holds : Holds e clock' s'
    pub count : length went ≡ i
    pub fewer : length clock'.clock + i ≡ length clock.clock

  -- frames went to the pool until the enclave had as many as wanted, or had none more to give
  pub record ReleasesTo (s : PassState) (before : TapState P) (e : ℕ) (clock : ClockTurn) (to : ℕ) (s' : PassState) (tap : TapState P) (clock' : ClockTurn) : Type 0 where
    pub went : List Went
    pub made : MakesAll s (all_entries s.hand.number false e went) s'
    pub gone : AreGone port host s.hand.home (seen s') s.hand.number false e went before tap
    pub holds : Holds e clock' s'
    pub fewer : length clock'.clock + length went ≡ length clock.clock
    pub end : (length clock'.clock ≡ to) ⊎ ((to < length clock'.clock) × AllNoted clock'.clock true s'.sweep.words)
