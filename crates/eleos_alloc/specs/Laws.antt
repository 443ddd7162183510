-- Allocs after every history.
use Rattle.std.specs.Prelude.{◌≡◌, ℕ, ◌<◌, List, IsTrue}
use Rattle.eleos_base.specs.declared.memory.Addr.{Addr}
use Rattle.eleos_base.specs.declared.memory.Op.TheVariants.{Alloc}
use Rattle.eleos_base.specs.declared.memory.Reply.{Reply}
use Rattle.eleos_base.specs.declared.memory.Reply.TheVariants.{Got}
use Rattle.eleos_base.specs.declared.plan.Plan.{Plan}
use Rattle.eleos_base.specs.Plain.{is_free_run, is_good_size, subs_for}
use Rattle.eleos_base.specs.Plans.{enclave_of, sub_bytes}
use Rattle.eleos_core.specs.declared.event.Event.TheVariants.{Op}
use Rattle.eleos_core.specs.Legal.{CoreStep}
use Rattle.eleos_base.specs.Places.{subs}
use Rattle.eleos_core.specs.Seals.{Seals}
use Rattle.eleos_core.specs.State.{History, entry, live}

-- a run of the caller's enclave that starts there is free, and long enough for so many bytes
pub record HasFreeRun (k : Plan) (past : History) (who n start : ℕ) : Type 0 where
  pub within : start < subs k (enclave_of k who)
  pub free : IsTrue (is_free_run (live k past (enclave_of k who)) (subs k (enclave_of k who)) (subs_for (sub_bytes k (enclave_of k who)) n) start)

-- an alloc of a good size is answered with an address where there is a free run for it
abbrev pub AllocsComplete : Type 0
AllocsComplete = (k : Plan) (x : Seals) (past : History) (who n start : ℕ) (blocks : List (List ℕ)) (reply : Reply) → CoreStep k x past (entry who (Op (Alloc n)) blocks reply)
    → IsTrue (is_good_size n) → HasFreeRun k past who n start → (at : Addr) × (reply ≡ Got at)
