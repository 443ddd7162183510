-- What is told of pages that leave their frames, and of frames that go to another owner.
use Rattle.std.specs.Prelude.{◌≡◌, ℕ, ◌≤◌, List, [], ◌∷◌, ◌++◌, length, map, Bool, true, Option, Some, None, vec_capacity, Vec}
use Rattle.std.specs.List.{AllByRecursion, flat_map}
use Rattle.std.specs.declared.alloc.Global.{Global}
use Rattle.eleos_balloon.specs.declared.ends.BalloonEnd.{BalloonEnd}
use Rattle.eleos_balloon.specs.declared.went.Went.{Went}
use Rattle.eleos_balloon.specs.Ends.{share_stamp}
use Rattle.eleos_balloon.specs.Gathers.{GathersOne}
use Rattle.eleos_machine.specs.declared.holding.ClockTurn.{ClockTurn}
use Rattle.eleos_balloon.specs.Holds.{MakesAll}
use Rattle.eleos_balloon.specs.Steps.{IsOneWay, all_entries, move_entry, source, target}
use Rattle.eleos_base.specs.Places.{all_frames}
use Rattle.eleos_core.specs.State.{History}
use Rattle.eleos_plot.specs.Terms.{core_terms}
use Rattle.eleos_turn.specs.Hands.{Goes}
use Rattle.eleos_machine.specs.Machines.{Site, plan_at, seals_at}
use Rattle.eleos_machine.specs.Notes.{is_noted_free}
use Rattle.eleos_machine.specs.Passes.{PassState, seen}
use Rattle.eleos_meaning.specs.Told.{Entered, Told, line_of, told_as}
use Rattle.eleos_pages.specs.Exchanges.{AreExchanged}
use Rattle.eleos_report.specs.declared.line.LogLine.{LogLine}
use Rattle.eleos_swap.specs.declared.evicts.Evicted.{Evicted}
use Rattle.eleos_swap.specs.Evicts.{entry_of}
use Rattle.eleos_swap.specs.Making.{Makes}
use Rattle.eleos_trace.specs.declared.word.Actor.{Actor}
use Rattle.eleos_trace.specs.declared.word.Word.TheVariants as words
use Rattle.eleos_meaning.specs.Names.{Names}
use Rattle.eleos_pages.specs.Exchanges.{Exchanges}
use Rattle.eleos_trace.specs.declared.word.Word.{Word}
use Rattle.eleos_run.specs.declared.answers.Spoken.{Spoken}
use Rattle.eleos_run.specs.Counts.{AreCounted}
use Rattle.eleos_run.specs.Steps.{Speaks}

-- of a page that left its frame, by the pass of this number
abbrev pub evict_told : ℕ → Evicted → Told
evict_told number one = told_as (words.Evict one.page one.frame) (Entered (entry_of number one) one.puts)

-- of the page that was in a frame, if there was one
abbrev pub page_told : ℕ → Option Evicted → List Told
page_told number None = []
page_told number (Some one) = evict_told number one ∷ []

-- of a frame that an enclave got or gave
abbrev pub move_told : ℕ → Bool → ℕ → Went → Told
move_told number gets e went = told_as (words.Move went.frame (source gets e) (target gets e)) (Entered (move_entry number gets e went) 0)

-- of such a frame, with the page that was in it before
abbrev pub went_told : ℕ → Bool → ℕ → Went → List Told
went_told number gets e went = page_told number went.evicted ++ move_told number gets e went ∷ []

-- of all these frames
abbrev pub all_told : ℕ → Bool → ℕ → List Went → List Told
all_told number gets e went = flat_map (went_told number gets e) went

-- of a frame of the pool that was tried, and went to the enclave or not
abbrev pub tried_told : ℕ → ℕ → Option Went → List Told
tried_told number e None = []
tried_told number e (Some went) = went_told number true e went

-- these lines were written behind those that there were, in their room
pub record Writes (actor : Actor) (told : List Told) (old new : Vec LogLine Global) : Type 0 where
  pub lines : new.items ≡ old.items ++ map (line_of actor) told
  pub room : vec_capacity old ≤ vec_capacity new

-- a frame of the pool was tried, and where it went to the enclave the lines tell so
pub record GathersTold (s : PassState) (e : ℕ) (clock pool : ClockTurn) (s' : PassState) (clock' pool' : ClockTurn) (actor : Actor) (old new : Vec LogLine Global) : Type 0 where
  pub went : Option Went
  pub gathers : GathersOne s e clock pool went s' clock' pool'
  pub writes : (number : ℕ) → Writes actor (tried_told number e went) old new

-- the page that left before a frame went left that frame
abbrev pub IsItsFrame : ℕ → Option Evicted → Type 0
IsItsFrame frame None = Unit {0}
IsItsFrame frame (Some one) = one.frame ≡ frame

-- a frame went this way, and the page that left before was in it
pub record IsGone (gets : Bool) (went : Went) : Type 0 where
  pub one_way : IsOneWay gets went
  pub its_frame : IsItsFrame went.frame went.evicted

-- no block was exchanged
abbrev pub no_block : ℕ → List ℕ → Type 0
no_block place block = ⊥

module _ (gave took : ℕ → List ℕ → Type 0) where
  -- the pass evicted pages from frames that it has noted as free, and the lines tell of each, with the number of blocks that the host took for it
  pub record TellsEvicts (z : Site) (s s' : PassState) (actor : Actor) (old new : Vec LogLine Global) : Type 0 where
    pub evicted : List Evicted
    pub makes : Makes s (map (entry_of s.hand.number) evicted) s'
    pub free : AllByRecursion (λ (one : Evicted). is_noted_free one.frame s'.sweep.words ≡ true) evicted
    pub exchanged : AreExchanged gave took z s'.hand.seen (map (entry_of s.hand.number) evicted)
    pub counted : AreCounted (plan_at z) (seals_at z) s'.hand.seen (map (evict_told s.hand.number) evicted)
    pub few : length evicted ≤ all_frames (plan_at z)
    pub writes : Writes actor (map (evict_told s.hand.number) evicted) old new

  -- frames went one way, and the lines tell of each
  pub record TellsWent (z : Site) (s s' : PassState) (gets : Bool) (e : ℕ) (actor : Actor) (old new : Vec LogLine Global) : Type 0 where
    pub went : List Went
    pub makes : MakesAll s (all_entries s.hand.number gets e went) s'
    pub gone : AllByRecursion (IsGone gets) went
    pub exchanged : AreExchanged gave took z s'.hand.seen (all_entries s.hand.number gets e went)
    pub counted : AreCounted (plan_at z) (seals_at z) s'.hand.seen (all_told s.hand.number gets e went)
    pub few : length went ≤ all_frames (plan_at z)
    pub writes : Writes actor (all_told s.hand.number gets e went) old new

  -- frames went one way, the lines tell of each, and then the pass stamped the survey of the enclave's share; it has no turn, and the pins that it had
  pub record TellsShare (z : Site) (s s' : PassState) (e to : ℕ) (end : BalloonEnd) (actor : Actor) (old new : Vec LogLine Global) : Type 0 where
    pub gets : Bool
    pub went : List Went
    pub past : History
    pub goes : Goes core_terms s.hand s'.hand (all_entries s.hand.number gets e went ++ (length past, share_stamp s.hand.number e to end s'.sweep.words) ∷ [])
    pub sees : seen s' ≡ (share_stamp s.hand.number e to end s'.sweep.words).entry ∷ past
    pub no_turn : s'.hand.turns ≡ []
    pub pins : s'.hand.pins ≡ s.hand.pins
    pub gone : AllByRecursion (IsGone gets) went
    pub exchanged : AreExchanged gave took z s'.hand.seen (all_entries s.hand.number gets e went)
    pub counted : AreCounted (plan_at z) (seals_at z) s'.hand.seen (all_told s.hand.number gets e went)
    pub few : length went ≤ all_frames (plan_at z)
    pub writes : Writes actor (all_told s.hand.number gets e went) old new

  -- what was spoken behind a command, and written of what it did on its way, is of the entries that the pass made for it
  pub record SpeaksAround (z : Site) (command : Word) (said : Spoken) (s s' : PassState) (names names' : Names) (actor : Actor) (old new : Vec LogLine Global) : Type 0 where
    pub way : List Told
    pub speaks : Speaks z command way said s s' names names'
    pub exchanged : Exchanges gave took z s s'
    pub counted : AreCounted (plan_at z) (seals_at z) s'.hand.seen way
    pub writes : Writes actor way old new
