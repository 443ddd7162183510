-- The words that crossed a port one way since `glance`.
use Rattle.std.specs.Prelude.{ℕ, zero, suc, ◌+◌, ◌-◌, ◌^◌, List, [], ◌∷◌, ◌++◌, length, min, nat_lt, Option, Some, None, if◌then◌else◌}
use Rattle.eleos_words.specs.declared.told.TheConstants.{MOST_TOLD}

-- a word, and the place at which it was loaded or stored
pub record Placed : Type 0 where
  pub at : ℕ
  pub word : ℕ

-- this word at this place
abbrev pub placed : ℕ → ℕ → Placed
placed at word = record { at = at; word = word }

-- none so far
abbrev pub none_yet : Option (List Placed)
none_yet = Some []

-- one more at the end; what was told is told no more once it would pass MOST_TOLD words
abbrev pub with_word : Option (List Placed) → ℕ → ℕ → Option (List Placed)
with_word None at word = None
with_word (Some told) at word =
    if nat_lt (length told) MOST_TOLD then Some (told ++ placed at word ∷ []) else None

-- these words, one after another from this place on
abbrev pub placed_from : ℕ → List ℕ → List Placed
placed_from at [] = []
placed_from at (word ∷ words) = placed at word ∷ placed_from (at + 1) words

-- the relation holds of each of these words at its place
abbrev pub AllPlaced : (ℕ → ℕ → Type 0) → List Placed → Type 0
AllPlaced P [] = Unit {0}
AllPlaced P (x ∷ xs) = P x.at x.word × AllPlaced P xs

-- these words more, in order
abbrev pub with_words : Option (List Placed) → List Placed → Option (List Placed)
with_words told [] = told
with_words told (x ∷ xs) = with_words (with_word told x.at x.word) xs

-- so many calls more, each counted short of the largest `u64`
abbrev pub more_calls : ℕ → ℕ → ℕ
more_calls calls zero = calls
more_calls calls (suc k) = min (more_calls calls k + 1) (2 ^ 64 - 1)
