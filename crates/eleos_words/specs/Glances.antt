-- What one look at a cell copies.
use Rattle.std.specs.Prelude.{◌≡◌, ℕ, ◌+◌, ◌≤◌, List, length, take, replicate, slice_index_or, slice_set, Option, Some, None}
use Rattle.eleos_words.specs.declared.layout.TheConstants.{BYTES, CELL_WORDS}
use Rattle.eleos_words.specs.declared.port.RingPort.{Ghosts}
use Rattle.eleos_words.specs.declared.glance.Glance.{Glance}
use Rattle.eleos_words.specs.Layout.{place}
use Rattle.eleos_words.specs.Bytes.{bytes_in, words_for}
use Rattle.eleos_words.specs.Told.{with_word, with_words, placed_from, none_yet, more_calls, AllPlaced}

-- nothing of the cell was copied
abbrev pub nothing_copied : List (Option ℕ)
nothing_copied = replicate CELL_WORDS None

-- the word of the cell that was copied, if it was
abbrev pub copy_of : List (Option ℕ) → ℕ → Option ℕ
copy_of copies j = slice_index_or copies j None

-- no word of the bytes was copied, from this one on
abbrev pub NoneFrom : List (Option ℕ) → ℕ → Type 0
NoneFrom copies j = (i : ℕ) → BYTES + j ≤ i → copy_of copies i ≡ None

module _ {P : Type 0} (ring : Ghosts P) where
  -- one word was loaded from this place, and nothing else happened at the port
  pub record Loads (old new : P) (at word : ℕ) : Type 0 where
    pub showed : ring.showed at word
    pub loaded : ring.loaded new ≡ with_word (ring.loaded old) at word
    pub stored : ring.stored new ≡ ring.stored old
    pub calls : ring.calls new ≡ more_calls (ring.calls old) 1

  -- The word is the copy, and nothing happened at the port.
  -- Where there was no copy it was loaded now, once.
  abbrev pub LoadsOnce : Option ℕ → P → P → ℕ → ℕ → Type 0
  LoadsOnce (Some copy) old new at word = (word ≡ copy) × (new ≡ old)
  LoadsOnce None old new at word = Loads old new at word

  -- this word of the cell was copied, unless it was before, and is remembered with the others
  pub record Copies (old new : Glance P) (j word : ℕ) : Type 0 where
    pub once : LoadsOnce (copy_of old.copies j) old.port.now new.port.now (place old.cell j) word
    pub cell : new.cell ≡ old.cell
    pub copies : new.copies ≡ slice_set old.copies j (Some word)

  -- the first words of the cell's bytes were copied, each once, and these are they
  pub record CopiesWords (old new : Glance P) (words : List ℕ) : Type 0 where
    pub loaded : ring.loaded new.port.now
        ≡ with_words (ring.loaded old.port.now) (placed_from (place old.cell BYTES) words)
    pub showed : AllPlaced ring.showed (placed_from (place old.cell BYTES) words)
    pub stored : ring.stored new.port.now ≡ ring.stored old.port.now
    pub calls : ring.calls new.port.now ≡ more_calls (ring.calls old.port.now) (length words)
    pub cell : new.cell ≡ old.cell

  -- as many words were copied as the buffer has room for, and it is full of their bytes
  pub record CopiesBytes (old new : Glance P) (buf : List ℕ) : Type 0 where
    pub words : List ℕ
    pub count : length words ≡ words_for (length buf)
    pub bytes : buf ≡ take (length buf) (bytes_in words)
    pub copies : CopiesWords old new words

  -- a look at this cell, of which nothing is copied yet
  pub record IsNewAt (glance : Glance P) (cell : ℕ) : Type 0 where
    pub here : glance.cell ≡ cell
    pub copies : glance.copies ≡ nothing_copied
    pub loaded : ring.loaded glance.port.now ≡ none_yet
    pub stored : ring.stored glance.port.now ≡ none_yet
