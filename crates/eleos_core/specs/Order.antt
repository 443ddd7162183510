-- Live blocks in order: what the lists of the core keep to.
use Rattle.std.specs.Prelude.{ℕ, ◌+◌, ◌≤◌, List, [], ◌∷◌}
use Rattle.eleos_base.specs.declared.memory.Live.{Live}

-- the blocks are not empty, rise from this place on without meeting each other, and end within so many sub-pages
abbrev pub AreInOrder : ℕ → ℕ → List Live → Type 0
AreInOrder low subs [] = low ≤ subs
AreInOrder low subs (block ∷ blocks) = (low ≤ block.start) × (1 ≤ block.len) × AreInOrder (block.start + block.len) subs blocks
