-- An enclave's header blocks, taken one after another.
use Rattle.std.proofs.Common.{◌≡◌, ℕ, ◌<◌, ◌==◌, List, [], ◌∷◌, length, filter, fold, map, slice_index, slice_index_or, Bool, if◌then◌else◌, refl, sym, ◌∙◌, ap, arith}
use Rattle.std.specs.List.{range_with_len}
use Rattle.std.proofs.lemmas.List.{get_or-map}
use Rattle.std.proofs.lemmas.List.FromFn.{fill_by_all}
use Rattle.eleos_base.specs.declared.plan.BlockPlan.{BlockPlan}
use Rattle.eleos_base.specs.declared.plan.EnclavePlan.{EnclavePlan}
use Rattle.eleos_base.specs.declared.plan.Plan.{Plan}
use Rattle.eleos_base.specs.Places.{page_counts, subs}
use Rattle.eleos_base.specs.Plain.{EnclaveMemory, blank, memory_of, opening, opening_of, with_header_block}
use Rattle.eleos_base.specs.Plans.{subs_in}
use Rattle.eleos_core.proofs.ByPlace.{length-map_from}
use Rattle.eleos_core.proofs.Ranges.{get_or-map_from}
use Rattle.eleos_core.proofs.Tests.{by_test}

-- with a header block, where that is one of the enclave
abbrev pub with_own : ℕ → EnclaveMemory → BlockPlan → EnclaveMemory
with_own enclave m block = if block.enclave == enclave then with_header_block 1024 m block else m

-- all of them
all_own : (enclave : ℕ) (blocks : List BlockPlan) (m : EnclaveMemory) → fold (with_own enclave) m blocks ≡ fold (with_header_block 1024) m (filter (λ (block : BlockPlan). block.enclave == enclave) blocks)
all_own enclave [] m = refl
all_own enclave (b ∷ bs) m = by_test (b.enclave == enclave)
    (λ v. fold (with_own enclave) (if v then with_header_block 1024 m b else m) bs
    ≡ fold (with_header_block 1024) m (if v then b ∷ filter (λ (block : BlockPlan). block.enclave == enclave) bs else filter (λ (block : BlockPlan). block.enclave == enclave) bs))
    (λ _. all_own enclave bs (with_header_block 1024 m b)) (λ _. all_own enclave bs m)

-- they open the enclave
pub opened-is : (plan : Plan) (enclave : ℕ) → enclave < length plan.enclaves → fold (with_own enclave) (blank 1024 (subs plan enclave)) plan.blocks ≡ memory_of (opening plan) enclave
opened-is plan enclave exists =
    let none : EnclavePlan = record { pages = 0; frames = 0 } in
    let pages : slice_index (page_counts plan) enclave ≡ (slice_index_or plan.enclaves enclave none).pages = get_or-map (λ (made : EnclavePlan). made.pages) plan.enclaves enclave none 0 exists in
    ap (λ (n : ℕ). fold (with_own enclave) (blank 1024 (subs_in plan enclave n)) plan.blocks) pages
    ∙ (all_own enclave plan.blocks (blank 1024 (subs_in plan enclave (slice_index_or plan.enclaves enclave none).pages))
    ∙ sym (get_or-map_from (opening_of plan) 0 enclave enclave plan.enclaves none (record { blocks = []; texts = [] }) exists (omega arith)))

-- how many enclaves are opened
pub length-opening : (plan : Plan) → length (opening plan) ≡ length plan.enclaves
length-opening plan = length-map_from (opening_of plan) 0 plan.enclaves

-- the memory by its enclaves
pub opening-by_enclave : (plan : Plan) (count : ℕ) → count ≡ length plan.enclaves → map (memory_of (opening plan)) (range_with_len 0 count) ≡ opening plan
opening-by_enclave plan count all = sym (fill_by_all (memory_of (opening plan)) (opening plan) count (record { blocks = []; texts = [] }) (length-opening plan ∙ sym all) (λ k within. refl))
