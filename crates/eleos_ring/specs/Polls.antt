-- What a poll loads, and what it makes of that.
use Rattle.std.specs.Prelude.{◌≡◌, ℕ, List, [], ◌∷◌, ◌++◌, length, take, drop, Some}
use Rattle.eleos_words.specs.declared.glance.Glance.{Glance}
use Rattle.eleos_words.specs.declared.layout.TheConstants.{BYTES, ID, LENGTH, STATE, STATUS}
use Rattle.eleos_words.specs.declared.port.RingPort.{Ghosts}
use Rattle.eleos_words.specs.Bytes.{bytes_in, words_for}
use Rattle.eleos_words.specs.Glances.{NoneFrom}
use Rattle.eleos_words.specs.Layout.{place}
use Rattle.eleos_words.specs.Told.{Placed, placed, placed_from, none_yet, more_calls, AllPlaced}
use Rattle.eleos_ring.specs.declared.accept.Fields.{Fields}
use Rattle.eleos_ring.specs.declared.accept.Polled.{Polled}
use Rattle.eleos_ring.specs.declared.accept.Polled.TheVariants.{Pending, Refused, Reply}
use Rattle.eleos_ring.specs.declared.ticket.Ticket.{Ticket}
use Rattle.eleos_ring.specs.Accept.{accept}

-- the four fields of the cell as they were copied, in order
abbrev pub field_words : ℕ → Fields → List Placed
field_words cell f =
    placed (place cell STATE) f.state ∷ placed (place cell ID) f.id
    ∷ placed (place cell LENGTH) f.length ∷ placed (place cell STATUS) f.status ∷ []

-- all that a poll loads of the cell, in order: each field once, and then words of the bytes
abbrev pub poll_words : ℕ → Fields → List ℕ → List Placed
poll_words cell f words = field_words cell f ++ placed_from (place cell BYTES) words

-- how many words of bytes are loaded for it
abbrev pub words_read : Polled → ℕ
words_read (Pending ticket state) = 0
words_read (Refused why seen) = 0
words_read (Reply len status) = words_for len

-- the buffer after it: a reply has its bytes at the front
abbrev pub buffer_after : Polled → List ℕ → List ℕ → List ℕ
buffer_after (Pending ticket state) buf words = buf
buffer_after (Refused why seen) buf words = buf
buffer_after (Reply len status) buf words = take len (bytes_in words) ++ drop len buf

module _ {P : Type 0} (ring : Ghosts P) where
  -- The answer and the buffer are made of the words that were loaded since `glance`, and of nothing
  -- else: `accept` of one copy of each field, and the bytes of as many words as the reply has.
  pub record Polls (t : Ticket) (old-buf new-buf : List ℕ) (port : P) (result : Polled) : Type 0 where
    pub fields : Fields
    pub words : List ℕ
    pub accepted : result ≡ accept t (length old-buf) fields
    pub count : length words ≡ words_read result
    pub bytes : new-buf ≡ buffer_after result old-buf words
    pub loaded : ring.loaded port ≡ Some (poll_words t.cell fields words)
    pub showed : AllPlaced ring.showed (poll_words t.cell fields words)
    pub stored : ring.stored port ≡ none_yet

  -- each field was copied once, in order, and no word of the bytes
  pub record CopiesFields (old new : Glance P) (f : Fields) : Type 0 where
    pub loaded : ring.loaded new.port.now ≡ Some (field_words old.cell f)
    pub showed : AllPlaced ring.showed (field_words old.cell f)
    pub stored : ring.stored new.port.now ≡ none_yet
    pub calls : ring.calls new.port.now ≡ more_calls (ring.calls old.port.now) 4
    pub cell : new.cell ≡ old.cell
    pub uncopied : NoneFrom new.copies 0
