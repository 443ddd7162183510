-- The lines of header blocks.
use Rattle.std.specs.Prelude.{◌≡◌, true, take, slice_get, ℕ, ◌≤◌, List, length, map, All, Bool, not, ◌==◌, ◌&&◌, ◌||◌, nat_le, nat_lt, [], ◌∷◌, Option, Some, None, Result, codes, if◌then◌else◌}
use Rattle.std.specs.List.{list_any}
use Rattle.std.specs.Str.{bytes_eq}
use Rattle.eleos_base.specs.declared.plan.BlockPlan.{BlockPlan}
use Rattle.eleos_base.specs.declared.plan.Plan.{Plan}
use Rattle.eleos_base.specs.Limits.{most_header_blocks}
use Rattle.eleos_base.specs.Plans.{IsGoodBlock, enclave_of}
use Rattle.eleos_base.specs.Plain.{is_good_size}
use Rattle.eleos_base.specs.Rooms.{has_space}
use Rattle.eleos_trace.specs.declared.header.NamedBlock.{NamedBlock}
use Rattle.eleos_texts.specs.declared.why.Why.{Why}
use Rattle.eleos_texts.specs.declared.why.Why.TheVariants.{Form, Range, Name, Enclave, BadSize, NoSpace, Owner}
use Rattle.eleos_texts.specs.Fields.{is, is_numeral, number, is_name}
use Rattle.eleos_texts.specs.Reasons.{unless, with_eight}
use Rattle.eleos_trace.specs.Machines.{is_enclave}

-- a block of the enclave has the name
abbrev pub has_name : List NamedBlock → ℕ → List ℕ → Bool
has_name blocks enclave name = list_any (λ named. named.block.enclave == enclave && bytes_eq named.name name) blocks

-- the machine with these header blocks
abbrev pub with_blocks : Plan → List NamedBlock → Plan
with_blocks plan blocks = record plan { blocks = map (λ named. named.block) blocks }

-- each header block of the plan finds room behind those before it
abbrev pub EachFindsRoom : Plan → Type 0
EachFindsRoom plan = (k : ℕ) (block : BlockPlan) → slice_get plan.blocks k ≡ Some block
    → has_space (record plan { blocks = take k plan.blocks }) block.enclave block.bytes ≡ true

-- nobody, or a caller of the enclave
abbrev pub may_own : Plan → ℕ → ℕ → Bool
may_own plan enclave owner = owner == 0 || nat_le owner (length plan.callers) && enclave_of plan owner == enclave

-- the owner that a numeral says, where it may own a block of the enclave
abbrev pub owner_in : Plan → ℕ → List ℕ → Option ℕ
owner_in plan enclave text = if may_own plan enclave (number text) then Some (number text) else None

-- `block NAME enclave E bytes N owner C`, behind the blocks before it
abbrev pub block_line : Plan → List NamedBlock → List (List ℕ) → Result NamedBlock Why
block_line plan before = with_eight (λ first name second enclave third bytes fourth owner. unless (
    (is (codes "block") first && is_name name && is (codes "enclave") second && is_numeral enclave, Form)
    ∷ (is (codes "bytes") third && is_numeral bytes && is (codes "owner") fourth && is_numeral owner, Form)
    ∷ (nat_lt (length before) most_header_blocks, Range)
    ∷ (not (has_name before (number enclave) name), Name)
    ∷ (is_enclave plan.enclaves enclave, Enclave)
    ∷ (is_good_size (number bytes), BadSize)
    ∷ (has_space (with_blocks plan before) (number enclave) (number bytes), NoSpace)
    ∷ (may_own plan (number enclave) (number owner), Owner) ∷ [])
    (record { name = name; block = record { enclave = number enclave; bytes = number bytes; owner = number owner } }))

-- header blocks that the machine may have
pub record AreGoodBlocks (plan : Plan) (blocks : List NamedBlock) : Type 0 where
  pub few : length blocks ≤ most_header_blocks
  pub each : All (λ named. IsGoodBlock plan named.block) blocks
  pub room : EachFindsRoom (with_blocks plan blocks)
