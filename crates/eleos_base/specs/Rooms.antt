-- The room that header blocks leave: they stand one behind the other, from their enclave's start on.
use Rattle.std.specs.Prelude.{ℕ, ◌-◌, List, [], ◌∷◌, length, Bool, ◌==◌, ◌&&◌, nat_le, is_some, if◌then◌else◌, slice_index_or}
use Rattle.eleos_base.specs.declared.plan.BlockPlan.{BlockPlan}
use Rattle.eleos_base.specs.declared.plan.Plan.{Plan}
use Rattle.eleos_base.specs.Plain.{EnclaveMemory, opening, memory_of, lowest_run, subs_for}
use Rattle.eleos_base.specs.Plans.{sub_bytes, subs_in}

-- what is left of so many free sub-pages, where the block is one of the enclave and finds room
abbrev pub less_block : ℕ → ℕ → BlockPlan → ℕ
less_block enclave free block = if block.enclave == enclave && nat_le (subs_for 1024 block.bytes) free then free - subs_for 1024 block.bytes else free

-- what these blocks leave of so many free sub-pages of the enclave
abbrev pub left_by : ℕ → List BlockPlan → ℕ → ℕ
left_by enclave [] free = free
left_by enclave (block ∷ others) free = left_by enclave others (less_block enclave free block)

-- the sub-pages of the enclave that are behind these blocks
abbrev pub free_behind : Plan → ℕ → List BlockPlan → ℕ
free_behind plan enclave blocks = left_by enclave blocks (subs_in plan enclave (slice_index_or plan.enclaves enclave (record { pages = 0; frames = 0 })).pages)

-- behind the header blocks of the plan, so many bytes find a free run in the enclave
unfoldable pub has_space : Plan → ℕ → ℕ → Bool
has_space plan enclave bytes =
    let memory : EnclaveMemory = memory_of (opening plan) enclave in
    is_some (lowest_run memory.blocks (length memory.texts) (subs_for (sub_bytes plan enclave) bytes))
