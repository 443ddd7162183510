-- Where the words of a table lie: word 0 is the length of the history, and each cell has one.
use Rattle.std.specs.Prelude.{ℕ, ◌+◌, ◌*◌}

-- which word of the table is the cell's: each eighth, so that no two lie in one line of 64 bytes
abbrev pub word_of : ℕ → ℕ
word_of c = (c + 1) * 8

-- the words of the table for the history and n cells
abbrev pub words_for : ℕ → ℕ
words_for n = (n + 1) * 8
