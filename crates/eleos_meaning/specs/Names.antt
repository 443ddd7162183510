-- The addresses that a caller's names have.
use Rattle.std.specs.Prelude.{ℕ, ◌+◌, ◌*◌, Bool, List, [], ◌∷◌, length, take, Option, Some, None, option_map, ◌==◌, if◌then◌else◌}
use Rattle.std.specs.Ordering.{eq_by_cmp, nat_cmp}
use Rattle.std.specs.Cmp.Lexicographic.{slice_cmp}
use Rattle.eleos_base.specs.declared.memory.Addr.{Addr}
use Rattle.eleos_base.specs.declared.memory.Reply.{Reply}
use Rattle.eleos_base.specs.declared.memory.Reply.TheVariants.{Got}
use Rattle.eleos_base.specs.declared.plan.Plan.{Plan}
use Rattle.eleos_base.specs.declared.plan.BlockPlan.{BlockPlan}
use Rattle.eleos_base.specs.Plain.{EnclaveMemory, lowest_run, memory_of, opening, subs_for}
use Rattle.eleos_base.specs.Plans.{enclave_of, sub_bytes}
use Rattle.eleos_trace.specs.declared.trace.Trace.{Trace}
use Rattle.eleos_trace.specs.declared.word.Word.{Word}
use Rattle.eleos_trace.specs.declared.word.Word.TheVariants.{Alloc}

-- the address that each name of a caller has, if any
abbrev pub Names : Type 0
Names = List ℕ → Option Addr

-- no name has an address
abbrev pub no_names : Names
no_names text = None

-- the two texts are one
abbrev pub is_same : List ℕ → List ℕ → Bool
is_same = eq_by_cmp (slice_cmp nat_cmp)

-- the name has the address now, and the others have theirs
abbrev pub with_name : List ℕ → Addr → Names → Names
with_name name at names text = if is_same text name then Some at else names text

-- the name has the address now, if there is one
abbrev pub with_address : List ℕ → Option Addr → Names → Names
with_address name None names = names
with_address name (Some at) names = with_name name at names

-- where a header block lies, by its place in the plan: in the lowest run that the blocks before it leave, if there is one
abbrev pub header_start : Plan → ℕ → BlockPlan → Option ℕ
header_start k i block =
    let memory : EnclaveMemory = memory_of (opening (record k { blocks = take i k.blocks })) block.enclave in
    lowest_run memory.blocks (length memory.texts) (subs_for (sub_bytes k block.enclave) block.bytes)

-- its address
abbrev pub header_address : Plan → ℕ → BlockPlan → Option Addr
header_address k i block = option_map (λ start. record { enclave = block.enclave; at = sub_bytes k block.enclave * start }) (header_start k i block)

-- these addresses with those of the enclave's header blocks, from the i-th block on
abbrev pub with_headers : Plan → ℕ → ℕ → List BlockPlan → List (List ℕ) → Names → Names
with_headers k home i [] texts names = names
with_headers k home i (block ∷ blocks) [] names = names
with_headers k home i (block ∷ blocks) (text ∷ texts) names =
    with_headers k home (i + 1) blocks texts (if block.enclave == home then with_address text (header_address k i block) names else names)

-- the addresses of an enclave's header blocks
abbrev pub header_names : Trace → ℕ → Names
header_names trace home = with_headers trace.plan home 0 trace.plan.blocks trace.names no_names

-- a caller's addresses before its first command: those of the header blocks of its enclave
abbrev pub opening_names : Trace → ℕ → Names
opening_names trace who = header_names trace (enclave_of trace.plan who)

-- the address that an alloc answered
abbrev pub address_in : Reply → Option Addr
address_in (Got at) = Some at
address_in _ = None

-- a caller's addresses after a command got this reply
abbrev pub names_after : Word → Reply → Names → Names
names_after (Alloc name bytes) reply names = with_address name (address_in reply) names
names_after word reply names = names
