-- What a worker loads of a job, and what it stores.
use Rattle.std.specs.Prelude.{◌≡◌, ℕ, ◌+◌, List, [], ◌∷◌, ◌++◌, length, nat_le, Some, if◌then◌else◌}
use Rattle.eleos_words.specs.declared.glance.Glance.{Glance}
use Rattle.eleos_words.specs.declared.layout.TheConstants.{BYTES, CALL, DONE, ID, LENGTH, MOST_BYTES, STATE, STATUS}
use Rattle.eleos_words.specs.declared.port.RingPort.{Ghosts}
use Rattle.eleos_words.specs.Bytes.{bytes_in, words_for, words_of}
use Rattle.eleos_words.specs.Glances.{NoneFrom}
use Rattle.eleos_words.specs.Layout.{place}
use Rattle.eleos_words.specs.Told.{Placed, placed, placed_from, none_yet, more_calls, AllPlaced}
use Rattle.eleos_work.specs.declared.read.Job.{Job}
use Rattle.eleos_work.specs.Calls.{TableReply, reply_to, text_in}
use Rattle.eleos_work.specs.States.{TableState}

-- the fields of a job as they were copied, in order
abbrev pub field_words : ℕ → Job → List Placed
field_words cell job =
    placed (place cell ID) job.id ∷ placed (place cell CALL) job.call
    ∷ placed (place cell LENGTH) job.length ∷ []

-- all that is loaded for a job, in order
abbrev pub job_loads : ℕ → Job → List ℕ → List Placed
job_loads cell job words = field_words cell job ++ placed_from (place cell BYTES) words

-- how many words of bytes are loaded: none for a length above MOST_BYTES
abbrev pub words_read : ℕ → ℕ
words_read count = if nat_le count MOST_BYTES then words_for count else 0

-- the words of a reply, as they are stored: number, length, status, the bytes, and last the state
abbrev pub reply_words : ℕ → ℕ → ℕ → List ℕ → List Placed
reply_words cell id status bytes =
    placed (place cell ID) id ∷ placed (place cell LENGTH) (length bytes)
    ∷ placed (place cell STATUS) status ∷ placed_from (place cell BYTES) (words_of bytes)
    ++ placed (place cell STATE) DONE ∷ []

module _ {P : Type 0} (ring : Ghosts P) where
  -- each field was copied once, in order, and no word of the bytes
  pub record CopiesJob (old new : Glance P) (job : Job) : Type 0 where
    pub loaded : ring.loaded new.port.now ≡ Some (field_words old.cell job)
    pub showed : AllPlaced ring.showed (field_words old.cell job)
    pub stored : ring.stored new.port.now ≡ none_yet
    pub calls : ring.calls new.port.now ≡ more_calls (ring.calls old.port.now) 3
    pub cell : new.cell ≡ old.cell
    pub uncopied : NoneFrom new.copies 0

  -- the job and its bytes are the words that were loaded since `glance`, each once
  pub record Reads (cell : ℕ) (port : P) (job : Job) (text : List ℕ) : Type 0 where
    pub words : List ℕ
    pub count : length words ≡ words_read job.length
    pub bytes : text_in text job.length ≡ text_in (bytes_in words) job.length
    pub loaded : ring.loaded port ≡ Some (job_loads cell job words)
    pub showed : AllPlaced ring.showed (job_loads cell job words)
    pub stored : ring.stored port ≡ none_yet

  -- these words alone were stored
  pub record StoresReply (old new : P) (xs : List Placed) : Type 0 where
    pub stored : ring.stored new ≡ Some xs
    pub wrote : AllPlaced ring.wrote xs
    pub loaded : ring.loaded new ≡ ring.loaded old
    pub calls : ring.calls new ≡ more_calls (ring.calls old) (length xs)

  -- Since one `glance` each word of the cell's job was loaded once, and then the table's reply to it,
  -- in some state of the table, was stored. Nothing else happened at the port.
  pub record Serves (cell : ℕ) (old new : P) : Type 0 where
    pub job : Job
    pub words : List ℕ
    pub state : TableState
    pub reply : TableReply
    pub count : length words ≡ words_read job.length
    pub loaded : ring.loaded new ≡ Some (job_loads cell job words)
    pub showed : AllPlaced ring.showed (job_loads cell job words)
    pub by_table : reply ≡ reply_to state job.call (text_in (bytes_in words) job.length)
    pub stored : ring.stored new ≡ Some (reply_words cell job.id reply.status reply.bytes)
    pub wrote : AllPlaced ring.wrote (reply_words cell job.id reply.status reply.bytes)
    pub calls : ring.calls new ≡ more_calls (ring.calls old)
        (4 + words_read job.length + length (reply_words cell job.id reply.status reply.bytes))
