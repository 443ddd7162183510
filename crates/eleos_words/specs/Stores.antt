-- Words that are stored one after another.
use Rattle.std.specs.Prelude.{◌≡◌, List, length}
use Rattle.eleos_words.specs.declared.port.RingPort.{Ghosts}
use Rattle.eleos_words.specs.Told.{Placed, with_words, more_calls, AllPlaced}

module _ {P : Type 0} (ring : Ghosts P) where
  -- these words were stored, in order, and nothing else happened at the port
  pub record StoresAll (old new : P) (xs : List Placed) : Type 0 where
    pub wrote : AllPlaced ring.wrote xs
    pub stored : ring.stored new ≡ with_words (ring.stored old) xs
    pub loaded : ring.loaded new ≡ ring.loaded old
    pub calls : ring.calls new ≡ more_calls (ring.calls old) (length xs)
