-- Frames that an enclave gets from the pool.
use Rattle.std.specs.Prelude.{◌≡◌, ◌⊎◌, ℕ, ◌+◌, ◌-◌, ◌<◌, ◌≤◌, List, [], ◌∷◌, ◌++◌, length, slice_index, true, Option, Some, None}
use Rattle.std.specs.List.{AllByRecursion}
use Rattle.eleos_base.specs.declared.memory.Looked.{Looked}
use Rattle.eleos_base.specs.Words.{is_busy}
use Rattle.eleos_core.specs.Sweeps.{frames_in}
use Rattle.eleos_machine.specs.declared.holding.ClockTurn.{ClockTurn}
use Rattle.eleos_machine.specs.Holding.{HasClock}
use Rattle.eleos_machine.specs.Passes.{PassState, seen}
use Rattle.eleos_balloon.specs.declared.went.Went.{Went}
use Rattle.eleos_balloon.specs.Holds.{HoldsWith, MakesAll}
use Rattle.eleos_balloon.specs.Steps.{IsEntry, IsOneWay, all_entries, move_entry, went_entries}

-- the notes name the first frames of the pool, in its order, each with a word that shows BUSY
pub record Tried (pool : ClockTurn) (words : List Looked) : Type 0 where
  pub first : (left : List ℕ) × (pool.clock ≡ frames_in words ++ left)
  pub busy : AllByRecursion (λ (seen : Looked). is_busy seen.word ≡ true) words

-- the pass has the turns of both clock cells, and has tried frames of the pool
pub record Gathering (e : ℕ) (clock pool : ClockTurn) (s : PassState) : Type 0 where
  pub holds : HoldsWith e (pool.number ∷ clock.number ∷ []) clock s
  pub pool_has : HasClock s None pool
  pub tried : Tried pool s.sweep.words

-- how many frames of the pool are left to be tried
abbrev pub left_count : ClockTurn → List Looked → ℕ
left_count pool words = length pool.clock - length words

-- the first frame of the pool that was left went to the enclave, as the last of its list
pub record GatheredOne (s : PassState) (e : ℕ) (clock pool : ClockTurn) (went : Went) (s' : PassState) (clock' pool' : ClockTurn) : Type 0 where
  pub made : MakesAll s (went_entries s.hand.number true e went) s'
  pub moved : IsEntry s.hand.home (seen s') (move_entry s.hand.number true e went)
  pub one_way : IsOneWay true went
  pub frame : went.frame ≡ slice_index pool.clock (length s.sweep.words)
  pub holds : Gathering e clock' pool' s'
  pub list : clock'.clock ≡ clock.clock ++ went.frame ∷ []
  pub fewer : left_count pool s.sweep.words ≡ left_count pool' s'.sweep.words + 1

-- it was found BUSY, and noted so
pub record GatheredNone (s : PassState) (e : ℕ) (clock pool : ClockTurn) (s' : PassState) (clock' pool' : ClockTurn) : Type 0 where
  pub made : MakesAll s [] s'
  pub holds : Gathering e clock' pool' s'
  pub same : clock' ≡ clock
  pub same_pool : pool' ≡ pool
  pub fewer : left_count pool s.sweep.words ≡ left_count pool' s'.sweep.words + 1

-- what a call that tries one frame did, by its answer
abbrev pub GathersOne : PassState → ℕ → ClockTurn → ClockTurn → Option Went → PassState → ClockTurn → ClockTurn → Type 0
GathersOne s e clock pool None s' clock' pool' = GatheredNone s e clock pool s' clock' pool'
GathersOne s e clock pool (Some went) s' clock' pool' = GatheredOne s e clock pool went s' clock' pool'

-- so many frames of the pool were tried, one after another
pub record GatheredSo (s : PassState) (e : ℕ) (clock pool : ClockTurn) (to i : ℕ) (s' : PassState) (clock' pool' : ClockTurn) : Type 0 where
  pub went : List Went
  pub made : MakesAll s (all_entries s.hand.number true e went) s'
  pub moved : AllByRecursion (λ (one : Went). IsEntry s.hand.home (seen s') (move_entry s.hand.number true e one) × IsOneWay true one) went
  pub holds : Gathering e clock' pool' s'
  pub count : length went ≤ i
  pub left : left_count pool s.sweep.words ≡ left_count pool' s'.sweep.words + i
  pub grown : length clock'.clock ≤ to

-- the enclave has as many frames as wanted, or fewer, and each frame of the pool was found BUSY
abbrev pub HasEnough : ClockTurn → ClockTurn → ℕ → List Looked → Type 0
HasEnough clock pool to words = (length clock.clock ≡ to) ⊎ ((length clock.clock < to) × (pool.clock ≡ frames_in words))

-- frames went to the enclave until it had enough, or all others of the pool were found BUSY
pub record GathersTo (s : PassState) (e : ℕ) (clock pool : ClockTurn) (to : ℕ) (s' : PassState) (clock' pool' : ClockTurn) : Type 0 where
  pub went : List Went
  pub made : MakesAll s (all_entries s.hand.number true e went) s'
  pub moved : AllByRecursion (λ (one : Went). IsEntry s.hand.home (seen s') (move_entry s.hand.number true e one) × IsOneWay true one) went
  pub holds : Gathering e clock' pool' s'
  pub count : length went ≤ length pool.clock
  pub enough : HasEnough clock' pool' to s'.sweep.words

-- the pass took the turn of the pool's clock cell, and has noted nothing
pub record BeginsGather (s : PassState) (e : ℕ) (clock pool : ClockTurn) (s' : PassState) : Type 0 where
  pub made : MakesAll s [] s'
  pub holds : Gathering e clock pool s'
  pub no_words : s'.sweep.words ≡ []
