-- How an entry changes the links of its hand, and which numbers stand in a list.
use Rattle.std.specs.Prelude.{◌≡◌, ◌⊎◌, ℕ, List, [], ◌∷◌}
use Rattle.eleos_base.specs.declared.plot.Tied.{Tied}
use Rattle.eleos_base.specs.declared.plot.Tied.TheVariants.{No, Adds, Takes}

-- the link that an entry adds to a cell, or takes from it, for its hand
pub data Tie : Type 0 where
  neither : Tie
  adds : ℕ → Tie
  takes : ℕ → Tie

-- what the program is told of it
abbrev pub tied_is : Tie → Tied
tied_is neither = No
tied_is (adds c) = Adds
tied_is (takes c) = Takes

-- the number stands in the list
abbrev pub Has : ℕ → List ℕ → Type 0
Has c [] = ⊥
Has c (x ∷ xs) = (c ≡ x) ⊎ Has c xs
