-- The pointers of a pass: where they may stand, and what holds of all of them.
use Rattle.std.specs.Prelude.{◌≡◌, ℕ, ◌+◌, ◌*◌, ◌<◌, ◌≤◌, Bool, false, Option, Some, None}
use Rattle.eleos_base.specs.declared.memory.Addr.{Addr}
use Rattle.eleos_base.specs.declared.plan.Plan.{Plan}
use Rattle.eleos_base.specs.Places.{subs}
use Rattle.eleos_base.specs.Plans.{IsCaller, enclave_of, sub_bytes}
use Rattle.eleos_machine.specs.declared.pointers.Pointer.{Pointer}
use Rattle.eleos_machine.specs.declared.pointers.SpId.{SpId}
use Rattle.eleos_machine.specs.Passes.{AreLinked, IsLawful, PassState, plan_of, pointer_of}

-- the enclave of a pass
abbrev pub home_of : PassState → ℕ
home_of s = enclave_of (plan_of s) s.hand.number

-- a range of 1 to 64 whole sub-pages of the enclave
pub record IsRange (k : Plan) (enclave : ℕ) (block : Addr) (count : ℕ) : Type 0 where
  pub some : 1 ≤ count
  pub few : count ≤ 64
  pub home : block.enclave ≡ enclave
  pub first : ℕ
  pub whole : block.at ≡ first * sub_bytes k enclave
  pub within : first + count ≤ subs k enclave

-- the bytes of a pointer's range
abbrev pub range_bytes : Plan → Pointer → ℕ
range_bytes k pointer = pointer.subs * sub_bytes k pointer.block.enclave

-- the pointer stands in a range of the enclave
pub record IsPointer (k : Plan) (enclave : ℕ) (pointer : Pointer) : Type 0 where
  pub range : IsRange k enclave pointer.block pointer.subs
  pub inside : pointer.at < range_bytes k pointer

-- the pass is a caller's, and what it has seen is a legal history; each of its pointers stands in a range of its enclave, and on each page it has as many
-- pins, and as many links, as it has linked pointers
pub record ArePointers (s : PassState) : Type 0 where
  pub caller : IsCaller (plan_of s) s.hand.number
  pub lawful : IsLawful s
  pub placed : (id : SpId) (pointer : Pointer) → pointer_of s id ≡ Some pointer → IsPointer (plan_of s) (home_of s) pointer
  pub linked : AreLinked s

-- whether the pass has the pointer, and it is linked
abbrev pub is_linked : Option Pointer → Bool
is_linked None = false
is_linked (Some pointer) = pointer.is_linked

-- the same place in the same range, without a link
abbrev pub unlinked : Pointer → Pointer
unlinked pointer = record pointer { is_linked = false }

-- a pointer to the beginning of a range, without a link
abbrev pub pointer_to : Addr → ℕ → Pointer
pointer_to block count = record { block = block; subs = count; at = 0; is_linked = false }
