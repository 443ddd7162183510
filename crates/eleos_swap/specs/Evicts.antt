-- Pages that left their frames.
use Rattle.std.specs.Prelude.{◌≡◌, ℕ, ◌<◌, ◌≤◌, List, [], ◌∷◌, length, false, Option, Some, None}
use Rattle.eleos_base.specs.Places.{all_frames}
use Rattle.eleos_core.specs.Applying.{puts_of}
use Rattle.eleos_core.specs.Evicts.{evict_stamp}
use Rattle.eleos_core.specs.Parts.{Made}
use Rattle.eleos_core.specs.State.{History}
use Rattle.eleos_host.specs.declared.port.HostPort.{Ghosts}
use Rattle.eleos_host.specs.declared.port.HostStore as store
use Rattle.eleos_host.specs.Taps.{TapState}
use Rattle.eleos_machine.specs.declared.holding.ClockTurn.{ClockTurn}
use Rattle.eleos_machine.specs.Passes.{PassState, plan_of, seals_of, seen}
use Rattle.eleos_pages.specs.Crossed.{HasCrossed}
use Rattle.eleos_clock.specs.Frees.{AreFree}
use Rattle.eleos_clock.specs.Lists.{AllNoted}
use Rattle.eleos_swap.specs.declared.evicts.Evicted.{Evicted}
use Rattle.eleos_swap.specs.Ends.{MayStop}
use Rattle.eleos_swap.specs.Making.{AreEvicts, HandMoves, IsEvict, Makes, StaysFree}

-- its entry, made by the pass of this number
abbrev pub entry_of : ℕ → Evicted → Made
entry_of number one = (one.stamp, evict_stamp number one.page one.frame)

-- the blocks that it sealed, with their places, behind this history
abbrev pub sealed_by : PassState → Evicted → History → List (ℕ × List ℕ)
sealed_by s one past = puts_of (plan_of s) (seals_of s) (evict_stamp s.hand.number one.page one.frame).entry past

-- no frame had a page to evict: the notes have each frame once
pub record EvictedNone (s : PassState) (list : List ℕ) (s' : PassState) : Type 0 where
  pub makes : Makes s [] s'
  pub noted : AllNoted list false s'.sweep.words
  pub keeps : StaysFree s.sweep.words s'.sweep.words

-- an evict of a pass, by what it has seen and noted afterwards
abbrev pub IsEvictOf : PassState → PassState → Made → Type 0
IsEvictOf s s' = IsEvict s.hand.home (seen s') s'.sweep.words s.hand.number

module _ {P : Type 0} (port : Ghosts P) (host : store.Ghosts P) where
  -- evicts of a pass, by what it has seen and noted afterwards
  abbrev pub AreEvictsOf : PassState → PassState → List Made → TapState P → TapState P → Type 0
  AreEvictsOf s s' = AreEvicts port host s.hand.home (seen s') s'.sweep.words s.hand.number

  -- pages were evicted, no more than are wanted and than there are frames, and the round may end
  pub record Evicts (s : PassState) (before : TapState P) (list : List ℕ) (low : ℕ) (s' : PassState) (tap : TapState P) : Type 0 where
    pub made : List Made
    pub makes : Makes s made s'
    pub evicts : AreEvictsOf s s' made before tap
    pub wanted : length made ≤ low
    pub few : length made ≤ all_frames (plan_of s)
    pub stop : MayStop list low s'.sweep.words

  -- so many were evicted, while fewer than are wanted were noted as free, and the search may go on
  pub record GoesOn (s : PassState) (before : TapState P) (clock : ClockTurn) (low i : ℕ) (s' : PassState) (tap : TapState P) (clock' : ClockTurn) : Type 0 where
    pub made : List Made
    pub makes : Makes s made s'
    pub evicts : AreEvictsOf s s' made before tap
    pub count : length made ≡ i
    pub wanted : i ≤ low
    pub grown : i ≤ length s'.sweep.words
    pub free : AreFree clock.clock s'.sweep.words
    pub hand : HandMoves clock clock'

  -- this page was evicted, and its frame noted as free behind those that were. The tap began once, and since then the host took just the blocks that
  -- the entry seals, of which there are so many, and gave none.
  pub record EvictedOne (s : PassState) (before : TapState P) (list : List ℕ) (one : Evicted) (s' : PassState) (tap : TapState P) : Type 0 where
    pub makes : Makes s (entry_of s.hand.number one ∷ []) s'
    pub is : IsEvictOf s s' (entry_of s.hand.number one)
    pub crossed : HasCrossed port host before tap [] (sealed_by s one is.past)
    pub count : one.puts ≡ length (sealed_by s one is.past)
    pub free : AreFree list s'.sweep.words
    pub keeps : StaysFree s.sweep.words s'.sweep.words
    pub grown : length s.sweep.words < length s'.sweep.words

  -- what a call that evicts one page did, by its answer
  abbrev pub EvictsOne : PassState → TapState P → List ℕ → Option Evicted → PassState → TapState P → Type 0
  EvictsOne s before list None s' tap = EvictedNone s list s' × (tap ≡ before)
  EvictsOne s before list (Some one) s' tap = EvictedOne s before list one s' tap
