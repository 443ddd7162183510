-- How many blocks an evict tells of.
use Rattle.std.specs.Prelude.{◌≡◌, ℕ, List, [], ◌∷◌, length, take}
use Rattle.eleos_base.specs.declared.plan.Plan.{Plan}
use Rattle.eleos_core.specs.declared.event.Event.TheVariants.{Evict}
use Rattle.eleos_core.specs.Applying.{puts_of}
use Rattle.eleos_core.specs.Seals.{Seals}
use Rattle.eleos_plot.specs.Histories.{history_of}
use Rattle.eleos_core.specs.Parts.{Entries}
use Rattle.eleos_meaning.specs.Told.{Came, Entered, Replied, Told}

module _ (k : Plan) (x : Seals) where
  -- an evict tells how many blocks were put, those of its sealings
  abbrev pub IsCounted : Entries → Came → Type 0
  IsCounted h (Entered one puts) = (page frame : ℕ) → one.1.entry.event ≡ Evict page frame → puts ≡ length (puts_of k x one.1.entry (history_of (take one.0 h)))
  IsCounted h (Replied reply) = Unit {0}

  -- each evict that these lines tell does so
  abbrev pub AreCounted : Entries → List Told → Type 0
  AreCounted h [] = Unit {0}
  AreCounted h (one ∷ told) = IsCounted h one.came × AreCounted h told
