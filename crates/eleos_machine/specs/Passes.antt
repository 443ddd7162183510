-- What contracts see of a pass, and what holds of each.
use Rattle.std.specs.Prelude.{◌≡◌, ℕ, List, [], ◌∷◌, Option}
use Rattle.eleos_base.specs.declared.plan.Plan.{Plan}
use Rattle.eleos_base.specs.Ties.{Has}
use Rattle.eleos_core.specs.Parts.{Part, Stamp, cell_of}
use Rattle.eleos_core.specs.Seals.{Seals}
use Rattle.eleos_core.specs.State.{History}
use Rattle.eleos_plot.specs.declared.cell.Cell.{Cell}
use Rattle.eleos_plot.specs.declared.plot.Ground.{Ground}
use Rattle.eleos_plot.specs.Cells.{part_of_cell}
use Rattle.eleos_plot.specs.Entries.{blank_stamp}
use Rattle.eleos_plot.specs.Fits.{Fits}
use Rattle.eleos_plot.specs.Histories.{IsMachineRun, history_of, part_after}
use Rattle.eleos_plot.specs.Terms.{core_terms}
use Rattle.eleos_turn.specs.Hands.{Goes, HandState, IsSound, Took, links_on, without_turn}
use Rattle.eleos_turn.specs.Numbers.{times}
use Rattle.eleos_machine.specs.Machines.{IsMachine, plan_at, seals_at}
use Rattle.eleos_machine.specs.declared.pointers.Pointer.{Pointer}
use Rattle.eleos_machine.specs.declared.pointers.SpId.{SpId}
use Rattle.eleos_machine.specs.Notes.{Sweep, no_sweep}
use Rattle.eleos_machine.specs.Pointers.{linked_in, pointer_in}

-- a pass: its hand at the machine's turnstile, the entry that it is to stamp next, what it noted in its search among frames, and its pointers,
-- each under a key from 0 on
pub record PassState : Type 0 where
  pub hand : HandState Stamp Part Ground
  pub draft : Stamp
  pub sweep : Sweep
  pub pointers : List (Option Pointer)

-- the pass of a hand that was just dealt
abbrev pub new_pass : HandState Stamp Part Ground → PassState
new_pass hand = record { hand = hand; draft = blank_stamp; sweep = no_sweep; pointers = [] }

-- the number of the last of these entries, each with its stamp, and 0 where there is none
abbrev pub last_stamp : List (ℕ × Stamp) → ℕ
last_stamp [] = 0
last_stamp (one ∷ []) = one.0
last_stamp (one ∷ other ∷ more) = last_stamp (other ∷ more)

-- the plan and the sealing of its machine
abbrev pub plan_of : PassState → Plan
plan_of s = plan_at s.hand.home

-- how the machine of the pass seals
abbrev pub seals_of : PassState → Seals
seals_of s = seals_at s.hand.home

-- the history that it has seen, the last entry first
abbrev pub seen : PassState → History
seen s = history_of s.hand.seen

-- what that history made of a cell
abbrev pub part_seen : PassState → ℕ → Part
part_seen s c = part_after s.hand.home.base.grounds (seen s) c

-- the pointer of this name, or none
abbrev pub pointer_of : PassState → SpId → Option Pointer
pointer_of s id = pointer_in s.pointers id.key

-- how many linked pointers the pass has on the page of a cell
abbrev pub linked_on : PassState → ℕ → ℕ
linked_on s c = linked_in (plan_of s) s.pointers c

-- on each cell the pass has as many pins, and as many links, as it has linked pointers there
pub record AreLinked (s : PassState) : Type 0 where
  pub pins : (c : ℕ) → times c s.hand.pins ≡ linked_on s c
  pub links : (c : ℕ) → links_on core_terms s.hand c ≡ linked_on s c

-- what holds of each pass at any time: its machine was made of a good plan, and what it has seen is a legal history of that machine
pub record IsLawful (s : PassState) : Type 0 where
  pub machine : IsMachine s.hand.home
  pub hand : IsSound core_terms s.hand
  pub run : IsMachineRun s.hand.home.base s.hand.seen

-- the turn of the cell c was taken, with the word n and the value x, and nothing was stamped
pub record TookTurn (c n : ℕ) (s : PassState) (x : Cell) (s' : PassState) : Type 0 where
  pub took : Took core_terms c n s.hand x s'.hand
  -- all but the hand stays
  pub rest : s' ≡ record s { hand = s'.hand }
  -- the value is what the history seen then made of the cell
  pub value : part_of_cell x ≡ part_seen s' c
  pub fits : Fits (plan_of s) (cell_of (plan_of s) c) x
  -- no other pass touched a cell whose turn was held
  pub held : (d : ℕ) → Has d s.hand.turns → part_seen s' d ≡ part_seen s d
  pub goes : Goes core_terms s.hand s'.hand []

-- the pass after it gave back the turn of c
abbrev pub gave : PassState → ℕ → PassState
gave s c = record s { hand = without_turn s.hand c }
