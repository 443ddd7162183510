-- The shards as they are made.
use Rattle.std.specs.Prelude.{ℕ, ◌+◌, ◌^◌, List, [], ◌∷◌}
use Rattle.eleos_machine.specs.Machines.{Site}
use Rattle.eleos_kv.specs.Cells.{CellState, shard_part}
use Rattle.eleos_kv.specs.Serving.{IsNewPart}

-- the stamps of each client's hand
abbrev pub client_stamps : ℕ
client_stamps = 2 ^ 35

-- these are the shards from number k on, before the first command
abbrev pub AreNewCells : Site → ℕ → List CellState → Type 0
AreNewCells z k [] = Unit {0}
AreNewCells z k (cell ∷ cells) = IsNewPart z k (shard_part cell) × AreNewCells z (k + 1) cells
