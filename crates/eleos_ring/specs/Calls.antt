-- What a call writes and is shown, and what it makes of that.
use Rattle.std.specs.Prelude.{◌≡◌, ℕ, ◌+◌, List, length, Some}
use Rattle.eleos_words.specs.declared.port.RingPort.{Ghosts}
use Rattle.eleos_words.specs.Told.{AllPlaced}
use Rattle.eleos_ring.specs.declared.accept.Fields.{Fields}
use Rattle.eleos_ring.specs.declared.accept.Polled.{Polled}
use Rattle.eleos_ring.specs.declared.accept.Polled.TheVariants.{Refused, Reply}
use Rattle.eleos_ring.specs.declared.call.Called.{Called}
use Rattle.eleos_ring.specs.declared.call.Called.TheVariants as called
use Rattle.eleos_ring.specs.Accept.{accept}
use Rattle.eleos_ring.specs.Jobs.{job_words}
use Rattle.eleos_ring.specs.Polls.{poll_words, words_read, buffer_after}
use Rattle.eleos_ring.specs.Rings.{free_cell, next_ticket}
use Rattle.eleos_ring.specs.States.{RingState}

-- what its last poll answered
abbrev pub polled_of : Called → Polled
polled_of (called.Reply len status) = Reply len status
polled_of (called.Refused why seen) = Refused why seen

module _ (shown written : ℕ → ℕ → Type 0) where
  -- The job of the next number was written to this cell of the client's. The result is what `accept`
  -- gives of one word for each field, each shown in that cell, and the bytes of a reply are those of
  -- words that were shown there too.
  pub record IsAnswered (r : RingState) (mine call : ℕ) (text old-buf new-buf : List ℕ) (result : Called) : Type 0 where
    pub fields : Fields
    pub words : List ℕ
    pub accepted : polled_of result ≡ accept (next_ticket r mine) (length old-buf) fields
    pub count : length words ≡ words_read (polled_of result)
    pub bytes : new-buf ≡ buffer_after (polled_of result) old-buf words
    pub showed : AllPlaced shown (poll_words (next_ticket r mine).cell fields words)
    pub wrote : AllPlaced written (job_words (next_ticket r mine).cell (r.posts + 1) call text)

module _ {P : Type 0} (ring : Ghosts P) where
  -- the job was posted in the lowest free cell, and answered there
  pub record HasCalled (r : RingState) (call : ℕ) (text old-buf new-buf : List ℕ) (result : Called) : Type 0 where
    pub mine : ℕ
    pub free : free_cell r ≡ Some mine
    pub answered : IsAnswered ring.showed ring.wrote r mine call text old-buf new-buf result
