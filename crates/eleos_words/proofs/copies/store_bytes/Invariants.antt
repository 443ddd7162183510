use Rattle.eleos_words.specs.declared.layout.TheConstants.{BYTES}
use Rattle.eleos_words.specs.Bytes.{first_words}
use Rattle.eleos_words.specs.Layout.{place}
use Rattle.eleos_words.specs.Stores.{StoresAll}
use Rattle.eleos_words.specs.Told.{placed_from}
use Rattle.eleos_words.proofs.copies.store_bytes.Given as goal

abbrev pub invariant-loop-j : goal.invariant-loop-j
invariant-loop-j g l = StoresAll g.P.RingPort l.initial.port l.port (placed_from (place l.cell BYTES) (first_words l.j l.bytes))
