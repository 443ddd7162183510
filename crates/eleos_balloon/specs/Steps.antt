-- Frames that went from an enclave to the pool or back, as entries of the pass that moved them.
use Rattle.std.specs.Prelude.{◌≡◌, ℕ, List, [], ◌∷◌, ◌++◌, length, Bool, true, false, Option, Some, None, if◌then◌else◌}
use Rattle.eleos_base.specs.Places.{Owner}
use Rattle.eleos_core.specs.Applying.{puts_of}
use Rattle.eleos_core.specs.Legal.{CoreStep}
use Rattle.eleos_core.specs.Moves.{move_stamp}
use Rattle.eleos_core.specs.Parts.{Made}
use Rattle.eleos_core.specs.State.{History}
use Rattle.eleos_host.specs.declared.port.HostPort.{Ghosts}
use Rattle.eleos_host.specs.declared.port.HostStore as store
use Rattle.eleos_host.specs.Taps.{TapState}
use Rattle.eleos_machine.specs.Machines.{Site, plan_at, seals_at}
use Rattle.eleos_pages.specs.Crossed.{HasCrossed}
use Rattle.eleos_swap.specs.declared.evicts.Evicted.{Evicted}
use Rattle.eleos_swap.specs.Evicts.{entry_of}
use Rattle.eleos_swap.specs.Making.{StandsIn}
use Rattle.eleos_balloon.specs.declared.went.Went.{Went}

-- whose the frames were, where the enclave gets them or gives them
abbrev pub source : Bool → ℕ → Owner
source gets e = if gets then None else Some e

-- and whose they are then
abbrev pub target : Bool → ℕ → Owner
target gets e = if gets then Some e else None

-- the evict of the page that was in the frame, by the pass of this number
abbrev pub evict_entries : ℕ → Option Evicted → List Made
evict_entries number None = []
evict_entries number (Some one) = entry_of number one ∷ []

-- the move of the frame
abbrev pub move_entry : ℕ → Bool → ℕ → Went → Made
move_entry number gets e went = (went.stamp, move_stamp number went.frame (source gets e) (target gets e))

-- the entries of one frame that went
abbrev pub went_entries : ℕ → Bool → ℕ → Went → List Made
went_entries number gets e went = evict_entries number went.evicted ++ move_entry number gets e went ∷ []

-- those of all frames, one after another
abbrev pub all_entries : ℕ → Bool → ℕ → List Went → List Made
all_entries number gets e [] = []
all_entries number gets e (went ∷ more) = went_entries number gets e went ++ all_entries number gets e more

-- an enclave that gets frames evicts no page
abbrev pub IsOneWay : Bool → Went → Type 0
IsOneWay true went = went.evicted ≡ None
IsOneWay false went = Unit {0}

-- an entry at its place in the history, legal after those before it
pub record IsEntry (z : Site) (all : History) (one : Made) : Type 0 where
  pub past : History
  pub place : one.0 ≡ length past
  pub stands : StandsIn all past one.1.entry
  pub legal : CoreStep (plan_at z) (seals_at z) past one.1.entry

module _ {P : Type 0} (port : Ghosts P) (host : store.Ghosts P) where
  -- the page left the frame by an evict. The tap began once, and since then the host took just the
  -- blocks that it seals, of which there are so many, and gave none.
  pub record LeftFrame (z : Site) (all : History) (number f : ℕ) (one : Evicted) (before tap : TapState P) : Type 0 where
    pub frame : one.frame ≡ f
    pub is : IsEntry z all (entry_of number one)
    pub crossed : HasCrossed port host before tap [] (puts_of (plan_at z) (seals_at z) (entry_of number one).1.entry is.past)
    pub count : one.puts ≡ length (puts_of (plan_at z) (seals_at z) (entry_of number one).1.entry is.past)

  -- before a frame went the page in it left, if there was one
  abbrev pub LeftFirst : Site → History → ℕ → ℕ → Option Evicted → TapState P → TapState P → Type 0
  LeftFirst z all number f None before tap = tap ≡ before
  LeftFirst z all number f (Some one) before tap = LeftFrame z all number f one before tap

  -- a frame went: it was left by the page in it, if there was one, and then moved
  pub record HasGone (z : Site) (all : History) (number : ℕ) (gets : Bool) (e : ℕ) (went : Went) (before tap : TapState P) : Type 0 where
    pub left : LeftFirst z all number went.frame went.evicted before tap
    pub moved : IsEntry z all (move_entry number gets e went)
    pub one_way : IsOneWay gets went

  -- such frames, one after another
  abbrev pub AreGone : Site → History → ℕ → Bool → ℕ → List Went → TapState P → TapState P → Type 0
  AreGone z all number gets e [] before tap = tap ≡ before
  AreGone z all number gets e (went ∷ more) before tap = (next : TapState P) × HasGone z all number gets e went before next × AreGone z all number gets e more next tap
