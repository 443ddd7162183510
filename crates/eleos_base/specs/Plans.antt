-- Plans: sizes, who belongs where, and which plans are good.
use Rattle.std.specs.Prelude.{◌≡◌, ◌⊎◌, ℕ, ◌+◌, ◌-◌, ◌*◌, ◌/◌, ◌^◌, ◌<◌, ◌≤◌, List, length, All, sum_by, slice_index}
use Rattle.std.specs.List.{AllByRecursion}
use Rattle.eleos_base.specs.declared.plan.Plan.{Plan}
use Rattle.eleos_base.specs.declared.plan.BlockPlan.{BlockPlan}
use Rattle.eleos_base.specs.declared.plan.EnclavePlan.{EnclavePlan}

-- bytes of a page
abbrev pub page_bytes : ℕ
page_bytes = 4096

-- bytes of a sub-page of the enclave
abbrev pub sub_bytes : Plan → ℕ → ℕ
sub_bytes plan enclave = 1024

-- sub-pages of so many pages of the enclave
abbrev pub subs_in : Plan → ℕ → ℕ → ℕ
subs_in plan enclave pages = page_bytes * pages / sub_bytes plan enclave

-- the enclave of a caller, who are numbered from 1
abbrev pub enclave_of : Plan → ℕ → ℕ
enclave_of plan who = slice_index plan.callers (who - 1)

-- a caller of the plan
pub record IsCaller (plan : Plan) (who : ℕ) : Type 0 where
  pub from_one : 1 ≤ who
  pub within : who ≤ length plan.callers

-- each enclave has 1 to 1024 pages
abbrev pub AreGoodPages : List EnclavePlan → Type 0
AreGoodPages enclaves = All (λ enclave. (1 ≤ enclave.pages) × (enclave.pages ≤ 1024)) enclaves

-- a header block has a good size and an enclave of the plan, and is nobody's or a caller's of that enclave
pub record IsGoodBlock (plan : Plan) (block : BlockPlan) : Type 0 where
  pub some_bytes : 1 ≤ block.bytes
  pub bytes : block.bytes ≤ 65536
  pub home : block.enclave < length plan.enclaves
  pub owner : (block.owner ≡ 0) ⊎ (IsCaller plan block.owner × (enclave_of plan block.owner ≡ block.enclave))

-- what every plan keeps to; whether there is room for its header blocks is judged beside it
pub record IsGood (plan : Plan) : Type 0 where
  pub some_enclave : 1 ≤ length plan.enclaves
  pub enclaves : length plan.enclaves ≤ 8
  pub pages : AreGoodPages plan.enclaves
  pub all_pages : sum_by (λ enclave. enclave.pages) plan.enclaves ≤ 4096
  pub frames : sum_by (λ enclave. enclave.frames) plan.enclaves + plan.spare ≤ 512
  pub some_caller : 1 ≤ length plan.callers
  pub callers : length plan.callers ≤ 8
  pub at_home : All (λ enclave. enclave < length plan.enclaves) plan.callers
  pub some_wear : 1 ≤ plan.wear
  pub wear : plan.wear ≤ 2 ^ 63
  pub blocks : AllByRecursion (IsGoodBlock plan) plan.blocks
