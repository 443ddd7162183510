-- The pointers of a pass, each under a key from 0 on.
use Rattle.std.specs.Prelude.{◌≡◌, ◌≢◌, ℕ, ◌+◌, ◌==◌, ◌&&◌, List, Bool, true, false, Option, Some, None, is_some, count_by, slice_index_or}
use Rattle.eleos_base.specs.declared.memory.Addr.{Addr}
use Rattle.eleos_base.specs.declared.plan.Plan.{Plan}
use Rattle.eleos_base.specs.Places.{page_of, sub_of}
use Rattle.eleos_core.specs.Parts.{page_cell}
use Rattle.eleos_machine.specs.declared.pointers.Pointer.{Pointer}

-- the pointer under a key, or none
abbrev pub pointer_in : List (Option Pointer) → ℕ → Option Pointer
pointer_in slots key = slice_index_or slots key None

-- how many pointers there are
abbrev pub pointers_in : List (Option Pointer) → ℕ
pointers_in slots = count_by is_some slots

-- the key has this now, and every other key what it had
pub record Puts (old new : List (Option Pointer)) (key : ℕ) (slot : Option Pointer) : Type 0 where
  pub changed : pointer_in new key ≡ slot
  pub others : (other : ℕ) → other ≢ key → pointer_in new other ≡ pointer_in old other

-- where a pointer stands: so many bytes behind the beginning of its range
abbrev pub place_of : Pointer → Addr
place_of pointer = record { enclave = pointer.block.enclave; at = pointer.block.at + pointer.at }

-- the page on which it stands, and the cell of that page
abbrev pub page_under : Plan → Pointer → ℕ
page_under k pointer = page_of k (sub_of k (place_of pointer))

-- the cell of the page on which it stands
abbrev pub cell_under : Plan → Pointer → ℕ
cell_under k pointer = page_cell k (page_under k pointer)

-- a pointer is there, is linked, and stands on the page of this cell
abbrev pub is_linked_on : Plan → ℕ → Option Pointer → Bool
is_linked_on k c None = false
is_linked_on k c (Some pointer) = pointer.is_linked && cell_under k pointer == c

-- how many linked pointers stand on the page of this cell
abbrev pub linked_in : Plan → List (Option Pointer) → ℕ → ℕ
linked_in k slots c = count_by (is_linked_on k c) slots
