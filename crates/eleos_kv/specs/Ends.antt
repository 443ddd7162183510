-- The shards are ended: the cells give their passes back, and the machine is closed with them.
use Rattle.std.specs.Prelude.{◌≡◌, ℕ, ◌+◌, ◌<◌, ◌≤◌, List, [], ◌∷◌, length, Option, Some, None}
use Rattle.eleos_core.specs.Legal.{Sound}
use Rattle.eleos_direct.specs.Desks.{calls_made}
use Rattle.eleos_machine.specs.Machines.{plan_at, seals_at}
use Rattle.eleos_machine.specs.Passes.{IsLawful, PassState, seen}
use Rattle.eleos_pages.specs.Exchanges.{AreExchanged}
use Rattle.eleos_plot.specs.Terms.{core_terms}
use Rattle.eleos_turn.specs.Closings.{AllBegin, AllOwn}
use Rattle.eleos_turn.specs.Hands.{IsSound, own as entries_by, part_of}
use Rattle.eleos_kv.specs.Cells.{CellState, IsCell}
use Rattle.eleos_kv.specs.Runs.{KvRun, commands_in}
use Rattle.eleos_kv.specs.Serving.{KvHandState, KvState}
use Rattle.eleos_kv.specs.Terms.{kv_terms}

-- the passes in the cells, in their order
abbrev pub passes_in : List (Option CellState) → List PassState
passes_in [] = []
passes_in (None ∷ cells) = passes_in cells
passes_in (Some cell ∷ cells) = cell.pass ∷ passes_in cells

-- what each cell has is one, whose pass has seen a legal history of its machine
abbrev pub AreCells : (ℕ → List ℕ → Type 0) → (ℕ → List ℕ → Type 0) → List (Option CellState) → Type 0
AreCells gave took [] = Unit {0}
AreCells gave took (None ∷ cells) = AreCells gave took cells
AreCells gave took (Some cell ∷ cells) = (IsCell gave took cell × IsLawful cell.pass) × AreCells gave took cells

-- This hand and this pass have seen both histories whole, and each client's hand made in the one just what it says. In the other, caller i + 1 made just the calls of shard i,
-- and for each entry the host gave the blocks that came for it and took those that it sealed.
pub record HasEnded (gave took : ℕ → List ℕ → Type 0) (s : KvState) (hands : List KvHandState) (pass : PassState) (hand : KvHandState) : Type 0 where
  pub home : hand.home ≡ s.all
  pub whole : hand.number ≡ 0
  pub sound : IsSound kv_terms hand
  pub begins : AllBegin hand.seen hands
  pub own : AllOwn kv_terms hand.seen hands
  pub machine : pass.hand.home ≡ s.machine
  pub closed : pass.hand.number ≡ 0
  pub lawful : IsLawful pass
  pub calls : (i : ℕ) → i < length s.all.base.opening → calls_made (entries_by core_terms (i + 1) 0 pass.hand.seen) ≡ (part_of kv_terms hand i).facts.calls
  pub only_calls : (i : ℕ) → i < length s.all.base.opening → length (entries_by core_terms (i + 1) 0 pass.hand.seen) ≤ length (part_of kv_terms hand i).facts.calls
  pub exchanged : (i : ℕ) → i < length s.all.base.opening → ∥ AreExchanged gave took s.machine pass.hand.seen (entries_by core_terms (i + 1) 0 pass.hand.seen) ∥₁

-- Where no altered or replaced block passed on the machine, all commands are a run of one map, in the order of their stamps
abbrev pub IsOneMapOf : KvState → PassState → KvHandState → Type 0
IsOneMapOf s pass hand = Sound (plan_at s.machine) (seals_at s.machine) (seen pass) → KvRun s.all.base.grounds (commands_in hand.seen)
