-- The words of a job, as the client stores them.
use Rattle.std.specs.Prelude.{◌≡◌, ℕ, List, [], ◌∷◌, ◌++◌, length, suc, Some}
use Rattle.eleos_words.specs.declared.layout.TheConstants.{BYTES, CALL, ID, LENGTH, POSTED, STATE}
use Rattle.eleos_words.specs.declared.port.RingPort.{Ghosts}
use Rattle.eleos_words.specs.Bytes.{words_of}
use Rattle.eleos_words.specs.Layout.{place}
use Rattle.eleos_words.specs.Told.{Placed, placed, placed_from, none_yet, more_calls, AllPlaced}
use Rattle.eleos_ring.specs.declared.ticket.Ticket.{Ticket}

-- in the order in which they are stored: number, call, length, the bytes, and last the state
abbrev pub job_words : ℕ → ℕ → ℕ → List ℕ → List Placed
job_words cell id call text =
    placed (place cell ID) id ∷ placed (place cell CALL) call
    ∷ placed (place cell LENGTH) (length text) ∷ placed_from (place cell BYTES) (words_of text)
    ++ placed (place cell STATE) POSTED ∷ []

module _ {P : Type 0} (ring : Ghosts P) where
  -- these words were stored since one `glance`, in order, and nothing else happened at the port
  pub record StoresJob (old new : P) (xs : List Placed) : Type 0 where
    pub stored : ring.stored new ≡ Some xs
    pub wrote : AllPlaced ring.wrote xs
    pub loaded : ring.loaded new ≡ none_yet
    pub calls : ring.calls new ≡ more_calls (ring.calls old) (suc (length xs))

  -- the words of the ticket's job were stored, and nothing else happened at the port
  abbrev pub Posts : P → P → Ticket → ℕ → List ℕ → Type 0
  Posts old new t call text = StoresJob old new (job_words t.cell t.id call text)
