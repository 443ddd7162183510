-- Accesses after every history.
use Rattle.std.specs.Prelude.{◌≡◌, ◌⊎◌, ℕ, List, [], ◌∷◌, None}
use Rattle.eleos_base.specs.declared.memory.Op.{Op as Calls}
use Rattle.eleos_base.specs.declared.memory.Op.TheVariants.{Read, Write}
use Rattle.eleos_base.specs.declared.memory.Reply.{Reply}
use Rattle.eleos_base.specs.declared.memory.Reply.TheVariants.{Done, Text, Worn}
use Rattle.eleos_base.specs.declared.plan.Plan.{Plan}
use Rattle.eleos_core.specs.declared.event.Event.TheVariants.{Op}
use Rattle.eleos_core.specs.declared.event.Wanted.TheVariants.{Op as ACall}
use Rattle.eleos_core.specs.Legal.{CoreStep, wanted_refusal}
use Rattle.eleos_base.specs.Places.{sub_of}
use Rattle.eleos_core.specs.Seals.{Seals}
use Rattle.eleos_core.specs.State.{History, entry, last, places}

-- each block of a place is the one last sealed there
abbrev pub AreLast : Plan → Seals → History → List ℕ → List (List ℕ) → Type 0
AreLast k x past [] blocks = Unit {0}
AreLast k x past (s ∷ ss) [] = Unit {0}
AreLast k x past (s ∷ ss) (block ∷ blocks) = (block ≡ last k x past s) × AreLast k x past ss blocks

-- a read has a text, and a write is done or its sub-page worn
abbrev pub IsServed : Plan → Calls → Reply → Type 0
IsServed k (Read at n) reply = (text : List ℕ) × (reply ≡ Text text)
IsServed k (Write at new) reply = (reply ≡ Done) ⊎ (reply ≡ Worn (sub_of k at))
IsServed k op reply = Unit {0}

-- an access that plain memory does not refuse, and for which the blocks came that were last sealed, is served
abbrev pub AccessesComplete : Type 0
AccessesComplete = (k : Plan) (x : Seals) (past : History) (who : ℕ) (op : Calls) (blocks : List (List ℕ)) (reply : Reply) → CoreStep k x past (entry who (Op op) blocks reply)
    → wanted_refusal k past who (ACall op) ≡ None → AreLast k x past (places k (Op op) past) blocks → IsServed k op reply
