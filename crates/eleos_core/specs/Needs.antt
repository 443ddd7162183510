-- Which blocks an event takes from the host, by the cells: at most one for each sub-page of a page.
use Rattle.std.specs.Prelude.{◌≡◌, ℕ, List, [], length, take}
use Rattle.eleos_base.specs.declared.memory.Reply.{Reply}
use Rattle.eleos_base.specs.Plans.{IsGood}
use Rattle.eleos_core.specs.declared.event.Event.{Event}
use Rattle.eleos_core.specs.declared.event.Event.TheVariants.{Op, Fill, Spoiled}
use Rattle.eleos_core.specs.Accesses.{call_places, page_for}
use Rattle.eleos_core.specs.Applying.{Shows}
use Rattle.eleos_core.specs.Cells.{Cells}
use Rattle.eleos_core.specs.Fills.{page_in, sealed_places}
use Rattle.eleos_core.specs.Legal.{CoreRun, CoreStep}
use Rattle.eleos_base.specs.Places.{page_of, sub_of}
use Rattle.eleos_core.specs.Seals.{Seals}
use Rattle.eleos_core.specs.State.{History, address_of, entry, places}

-- the places in rising order: an access's own where it is not refused, and those of a whole page
abbrev pub needed : Cells → ℕ → Event → List ℕ
needed m who (Op op) = call_places m who op
needed m who (Fill p f) = sealed_places p (page_in m p)
needed m who (Spoiled wanted) = sealed_places (page_of m.plan (sub_of m.plan (address_of wanted))) (page_for m (address_of wanted))
needed m who event = []

-- after whatever legal history that the cells show, these are the places whose blocks a legal entry of the event takes, in order
abbrev pub AlwaysCovers : Cells → ℕ → Event → List ℕ → Type 0
AlwaysCovers m who event at = (x : Seals) (past : History) → IsGood m.plan → CoreRun m.plan x past → Shows x past m
    → (blocks : List (List ℕ)) (reply : Reply) → CoreStep m.plan x past (entry who event blocks reply)
    → take (length blocks) (places m.plan event past) ≡ take (length blocks) at
