-- What a port notes at each of its calls.
use Rattle.std.specs.Prelude.{ℕ}
use Rattle.eleos_words.specs.NotedStates.{Noted}
use Rattle.eleos_words.specs.Told.{none_yet, with_word, more_calls}

-- no call was made
abbrev pub no_notes : Noted
no_notes = record { loaded = none_yet; stored = none_yet; calls = 0 }

-- both lists begin anew
abbrev pub glanced : Noted → Noted
glanced n = record { loaded = none_yet; stored = none_yet; calls = more_calls n.calls 1 }

-- this word was loaded from this place
abbrev pub with_loaded : Noted → ℕ → ℕ → Noted
with_loaded n at word = record {
  loaded = with_word n.loaded at word;
  stored = n.stored;
  calls = more_calls n.calls 1;
}

-- this word was stored to this place
abbrev pub with_stored : Noted → ℕ → ℕ → Noted
with_stored n at word = record {
  loaded = n.loaded;
  stored = with_word n.stored at word;
  calls = more_calls n.calls 1;
}
