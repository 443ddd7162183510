-- Where the words of a cell stand in a ring.
use Rattle.std.specs.Prelude.{ℕ, ◌+◌, ◌*◌}
use Rattle.eleos_words.specs.declared.layout.TheConstants.{CELL_WORDS}

-- the place of word j of the cell
abbrev pub place : ℕ → ℕ → ℕ
place cell j = cell * CELL_WORDS + j
