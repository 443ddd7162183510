-- A memory as its owner sees it: the calls made so far, and what each call adds.
use Rattle.std.specs.Prelude.{◌≡◌, ℕ, ◌+◌, ◌≤◌, List, [], ◌∷◌, ◌++◌, length, count_by, Bool, true, false, if◌then◌else◌}
use Rattle.eleos_base.specs.declared.memory.Op.{Op}
use Rattle.eleos_base.specs.declared.memory.Reply.{Reply}
use Rattle.eleos_base.specs.declared.memory.Reply.TheVariants.{NoSpace, Worn, Tampered}
use Rattle.eleos_base.specs.declared.refusals.AccessRefused.{AccessRefused}
use Rattle.eleos_base.specs.declared.refusals.AccessRefused.TheVariants as accesses
use Rattle.eleos_base.specs.Own.{Private, Said, own}

-- what it was made with, all calls of its owner, with those before it was made, and how many calls are left
pub record MemoryState (O : Type 0) : Type 0 where
  pub origin : O
  pub calls : List Said
  pub left : ℕ

-- the refusals that a read within a private block may get
abbrev pub IsReadFault : AccessRefused → Type 0
IsReadFault (accesses.Tampered s) = Unit {0}
IsReadFault _ = ⊥

-- the refusals that a write within a private block may get
abbrev pub IsWriteFault : AccessRefused → Type 0
IsWriteFault (accesses.Worn s) = Unit {0}
IsWriteFault (accesses.Tampered s) = Unit {0}
IsWriteFault _ = ⊥

module _ {O : Type 0} where
  -- the private memory that the calls made; the sub-pages of its enclave have 1,024 bytes
  abbrev pub owned : MemoryState O → Private
  owned m = own 1024 m.calls

  -- just these calls were made since, each at the cost of at most one call left
  pub record HasMade (m : MemoryState O) (made : List Said) (m' : MemoryState O) : Type 0 where
    pub origin : m'.origin ≡ m.origin
    pub calls : m'.calls ≡ m.calls ++ made
    pub left : m.left ≤ m'.left + length made

  -- just this call was made since
  abbrev pub HasCalled : MemoryState O → Op → Reply → MemoryState O → Type 0
  HasCalled m op reply m' = HasMade m ((op, reply) ∷ []) m'

-- the answers whose numbers an owner may ask for
abbrev pub is_no_space : Reply → Bool
is_no_space NoSpace = true
is_no_space _ = false

-- the write was refused as its sub-page was sealed as often as it may be
abbrev pub is_worn : Reply → Bool
is_worn (Worn s) = true
is_worn _ = false

-- the call was refused as the block of its sub-page was altered or replaced
abbrev pub is_tampered : Reply → Bool
is_tampered (Tampered s) = true
is_tampered _ = false

-- how many of the calls were answered so
abbrev pub count_answered : (Reply → Bool) → List Said → ℕ
count_answered test calls = count_by (λ (call : Said). test call.1) calls

-- the number of answers of this kind rises by one with a call so answered, and stays with any other
abbrev pub IsCounted : (Reply → Bool) → List Said → Said → Type 0
IsCounted test calls call = count_answered test (calls ++ call ∷ []) ≡ count_answered test calls + (if test call.1 then 1 else 0)

-- so do the numbers of NoSpace, Worn and Tampered
pub record AreCounted (calls : List Said) (call : Said) : Type 0 where
  pub no_space : IsCounted is_no_space calls call
  pub worn : IsCounted is_worn calls call
  pub tampered : IsCounted is_tampered calls call
