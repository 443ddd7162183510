-- The blocks that crossed a port one way since `begin`.
use Rattle.std.specs.Prelude.{ℕ, List, [], ◌∷◌, ◌++◌, length, nat_lt, Option, Some, None, if◌then◌else◌}
use Rattle.eleos_host.specs.declared.crossings.TheConstants.{MOST_TOLD}

-- a block and the place that it was asked or put for
pub record Placed : Type 0 where
  pub place : ℕ
  pub block : List ℕ

-- this block at this place
abbrev pub placed : ℕ → List ℕ → Placed
placed place block = record { place = place; block = block }

-- none so far
abbrev pub none_yet : Option (List Placed)
none_yet = Some []

-- one more at the end; what was told is told no more once it would pass MOST_TOLD blocks
abbrev pub with_crossing : Option (List Placed) → ℕ → List ℕ → Option (List Placed)
with_crossing None place block = None
with_crossing (Some told) place block =
    if nat_lt (length told) MOST_TOLD then Some (told ++ placed place block ∷ []) else None
