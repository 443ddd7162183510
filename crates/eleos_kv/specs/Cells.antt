-- A cell of the shards' turnstile: a shard with the pass of its caller.
use Rattle.std.specs.Prelude.{◌≡◌, ℕ, ◌≤◌, List, [], length}
use Rattle.eleos_base.specs.Own.{own}
use Rattle.eleos_base.specs.Plans.{IsCaller}
use Rattle.eleos_direct.specs.Desks.{IsExchanged, calls_of, no_desk}
use Rattle.eleos_machine.specs.Machines.{Site, plan_at}
use Rattle.eleos_machine.specs.Passes.{PassState}
use Rattle.eleos_plot.specs.Terms.{core_terms}
use Rattle.eleos_shard.specs.Shards.{IsShard, ShardFacts, ShardState, places_of}
use Rattle.eleos_turn.specs.Hands.{entries}

-- the pass of the shard's caller, at rest, and the shard
pub record CellState : Type 0 where
  pub pass : PassState
  pub shard : ShardState

-- what the history of commands fixes of a cell: the machine and the number of its pass, and the facts of the shard
pub record ShardPart : Type 0 where
  pub home : Site
  pub number : ℕ
  pub facts : ShardFacts

-- the facts of a shard in the memory of this pass
abbrev pub facts_with : PassState → ShardState → ShardFacts
facts_with pass shard = record { calls = calls_of pass; left = pass.hand.left; places = places_of shard }

-- the part of a cell
abbrev pub shard_part : CellState → ShardPart
shard_part c = record { home = c.pass.hand.home; number = c.pass.hand.number; facts = facts_with c.pass c.shard }

-- the part of no cell
abbrev pub no_shard : ShardPart
no_shard = record { home = no_desk.machine; number = 0; facts = record { calls = []; left = 0; places = [] } }

-- the entries that the pass made are calls, one each
abbrev pub MakesCalls : PassState → Type 0
MakesCalls pass = length (entries core_terms pass.hand) ≤ length (calls_of pass)

-- What holds of each cell, at any time: its pass has no turn and made calls alone, and the host gave the blocks that came for them and took those that they sealed
module _ (gave took : ℕ → List ℕ → Type 0) where
  pub record IsCell (c : CellState) : Type 0 where
    pub idle : c.pass.hand.turns ≡ []
    pub caller : IsCaller (plan_at c.pass.hand.home) c.pass.hand.number
    pub calls : MakesCalls c.pass
    pub shard : IsShard (own 1024 (calls_of c.pass)) c.shard
    pub exchanged : IsExchanged gave took c.pass.hand.home c.pass
