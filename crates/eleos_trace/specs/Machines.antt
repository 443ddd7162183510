-- What a machine has, and what can be named in it.
use Rattle.std.specs.Prelude.{ℕ, List, length, Bool, false, ◌&&◌, nat_le, sum_by, Option, Some, None, if◌then◌else◌}
use Rattle.eleos_base.specs.declared.plan.Plan.{Plan}
use Rattle.eleos_base.specs.declared.plan.EnclavePlan.{EnclavePlan}
use Rattle.eleos_base.specs.Places.{all_pages}
use Rattle.eleos_base.specs.Plans.{subs_in}
use Rattle.eleos_trace.specs.declared.word.Actor.{Actor}
use Rattle.eleos_trace.specs.declared.word.Actor.TheVariants.{Caller}
use Rattle.eleos_texts.specs.Fields.{is_numeral, number, is_below}

-- the pages of these enclaves
abbrev pub pages_of : List EnclavePlan → ℕ
pages_of enclaves = sum_by (λ enclave. enclave.pages) enclaves

-- the frames of these enclaves
abbrev pub frames_of : List EnclavePlan → ℕ
frames_of enclaves = sum_by (λ enclave. enclave.frames) enclaves

-- the sub-pages of a machine, each of which has a place of the host
abbrev pub places : Plan → ℕ
places plan = subs_in plan 0 (all_pages plan)

-- the number of an enclave that is declared
abbrev pub is_enclave : List EnclavePlan → List ℕ → Bool
is_enclave enclaves text = is_numeral text && is_below (length enclaves) text

-- that number, where it is one
abbrev pub enclave_in : List EnclavePlan → List ℕ → Option ℕ
enclave_in enclaves text = if is_enclave enclaves text then Some (number text) else None

-- a caller that is declared
abbrev pub is_caller : Plan → Actor → Bool
is_caller plan (Caller number) = nat_le 1 number && nat_le number (length plan.callers)
is_caller plan _ = false
